-- Going over the program headers, one after another.
use Rattle.std.proofs.Common.{◌≡◌, ℕ, ◌+◌, ◌*◌, ◌<◌, ◌≤◌, true, false, cond, List, [], ◌∷◌, ◌++◌, None, Some, subst, sym, ◌∙◌, ap, arith, append_assoc, drop, map, filter}
use Rattle.std.proofs.lemmas.List.{drop_more, drop_all, append-nil}
use Rattle.std.proofs.lemmas.List.FromFn.{get_or-map-range_with_len, length-map-range_with_len}
use Rattle.slack_base.specs.declared.faults.ImageFault.{ImageFault}
use Rattle.image_load.specs.declared.layouts.Load.{Load}
use Rattle.image_load.specs.declared.elf.ElfHeader.{ElfHeader}
use Rattle.image_load.specs.declared.elf.ProgramHeader.{ProgramHeader}
use Rattle.slack_base.specs.Checks.{first_fault}
use Rattle.image_load.specs.LoadChecks.{checks_of, load_checks}
use Rattle.image_load.specs.Elf.{program_header, program_headers, is_load, loads_of}
use Rattle.image_load.proofs.Accepted.{passed, found}

-- the header of a number is the first of those that are left
pub next_header : (bytes : List ℕ) (header : ElfHeader) (i : ℕ) → i < header.header_count → drop i (program_headers bytes header) ≡ program_header bytes (header.headers_offset + 32 * i) i ∷ drop (i + 1) (program_headers bytes header)
next_header bytes header i within =
    let at = λ (k : ℕ). program_header bytes (header.headers_offset + 32 * k) k in
    let n = header.header_count in
    let len = length-map-range_with_len at 0 n in
    let h = at i in
    drop_more (program_headers bytes header) i h (omega arith)
    ∙ ap (λ x. x ∷ drop (i + 1) (program_headers bytes header)) (get_or-map-range_with_len at 0 n i i h within (omega arith))

loads_of-pass : (h : ProgramHeader) (headers : List ProgramHeader) → is_load h ≡ false → loads_of (h ∷ headers) ≡ loads_of headers
loads_of-pass h headers e = ap (λ b. map (λ (x : ProgramHeader). x.load) (cond b (h ∷ filter is_load headers) (filter is_load headers))) e

loads_of-take : (h : ProgramHeader) (headers : List ProgramHeader) → is_load h ≡ true → loads_of (h ∷ headers) ≡ h.load ∷ loads_of headers
loads_of-take h headers e = ap (λ b. map (λ (x : ProgramHeader). x.load) (cond b (h ∷ filter is_load headers) (filter is_load headers))) e

-- how the pieces, and the first fault of them, are made of those so far and of the rest
pub record IsSplit (base memory have : ℕ) (all so_far rest : List Load) : Type 0 where
  pub pieces : all ≡ so_far ++ rest
  pub faults : first_fault (load_checks base memory have [] all) ≡ first_fault (load_checks base memory have so_far rest)

-- the pieces of the headers from a number on
abbrev pub rest_of : List ℕ → ElfHeader → ℕ → List Load
rest_of bytes header i = loads_of (drop i (program_headers bytes header))

-- none is left
pub split_end : (base memory have : ℕ) (all so_far : List Load) (bytes : List ℕ) (header : ElfHeader) (i : ℕ) → header.header_count ≤ i → IsSplit base memory have all so_far (rest_of bytes header i) → (all ≡ so_far) × (first_fault (load_checks base memory have [] all) ≡ None)
unfolding load_checks
split_end base memory have all so_far bytes header i past s =
    let at = λ (k : ℕ). program_header bytes (header.headers_offset + 32 * k) k in
    let len = length-map-range_with_len at 0 header.header_count in
    let none : drop i (program_headers bytes header) ≡ [] = drop_all i (program_headers bytes header) (omega arith) in
    (s.pieces ∙ ap (λ hs. so_far ++ loads_of hs) none ∙ append-nil so_far, s.faults ∙ ap (λ hs. first_fault (load_checks base memory have so_far (loads_of hs))) none)

module _ (base memory have : ℕ) (all so_far : List Load) (bytes : List ℕ) (header : ElfHeader) (i : ℕ) (within : i < header.header_count) (this : ProgramHeader) (is : this ≡ program_header bytes (header.headers_offset + 32 * i) i) where
  next : drop i (program_headers bytes header) ≡ this ∷ drop (i + 1) (program_headers bytes header)
  next = next_header bytes header i within ∙ ap (λ x. x ∷ drop (i + 1) (program_headers bytes header)) (sym is)

  pub split_pass : IsSplit base memory have all so_far (rest_of bytes header i) → is_load this ≡ false → IsSplit base memory have all so_far (rest_of bytes header (i + 1))
  split_pass s e =
      let same : rest_of bytes header i ≡ rest_of bytes header (i + 1) = ap loads_of (next) ∙ loads_of-pass this (drop (i + 1) (program_headers bytes header)) e in
      subst (IsSplit base memory have all so_far) same s

  rest_is : is_load this ≡ true → rest_of bytes header i ≡ this.load ∷ rest_of bytes header (i + 1)
  rest_is e = ap loads_of (next) ∙ loads_of-take this (drop (i + 1) (program_headers bytes header)) e

  faults_is : is_load this ≡ true → IsSplit base memory have all so_far (rest_of bytes header i) → first_fault (load_checks base memory have [] all) ≡ first_fault (checks_of base memory have so_far this.load ++ load_checks base memory have (so_far ++ this.load ∷ []) (rest_of bytes header (i + 1)))
  unfolding load_checks
  faults_is e s = s.faults ∙ ap (λ r. first_fault (load_checks base memory have so_far r)) (rest_is e)

  pub split_take : IsSplit base memory have all so_far (rest_of bytes header i) → is_load this ≡ true → first_fault (checks_of base memory have so_far this.load) ≡ None → IsSplit base memory have all (so_far ++ this.load ∷ []) (rest_of bytes header (i + 1))
  split_take s e none = record {
    pieces = s.pieces ∙ ap (λ r. so_far ++ r) (rest_is e) ∙ sym (append_assoc so_far (this.load ∷ []) (rest_of bytes header (i + 1)));
    faults = faults_is e s ∙ passed (checks_of base memory have so_far this.load) (load_checks base memory have (so_far ++ this.load ∷ []) (rest_of bytes header (i + 1))) none;
  }

  pub split_fault : (f : ImageFault) → IsSplit base memory have all so_far (rest_of bytes header i) → is_load this ≡ true → first_fault (checks_of base memory have so_far this.load) ≡ Some f → first_fault (load_checks base memory have [] all) ≡ Some f
  split_fault f s e some =
      faults_is e s ∙ found (checks_of base memory have so_far this.load) (load_checks base memory have (so_far ++ this.load ∷ []) (rest_of bytes header (i + 1))) f some
