-- The machine before the first cycle, and coherence after every number of cycles.
use Rattle.std.proofs.Common.{◌≡◌, ◌≢◌, ◌∙◌, ℕ, true, IsTrue, zero, suc, ◌+◌, ◌*◌, ◌/◌, ◌%◌, ◌<◌, Option, None, Some, List, [], ◌∷◌, ◌++◌, map, length, replicate, get_or, slice_get, refl, sym, ap, subst, arith, append-nil, div-add-mod'}
use Rattle.std.specs.List.{range_with_len}
use Rattle.std.specs.Option.{option_map}
use Rattle.std.proofs.Math.Nat.{mod-lt, mul_comm}
use Rattle.std.proofs.lemmas.Bool.Decides.{nat_tests}
use Rattle.std.proofs.lemmas.List.{length-map}
use Rattle.std.proofs.lemmas.Option.{slice_get_within}
use Rattle.std.proofs.lemmas.List.FromFn.{length-range_with_len}
use Rattle.std.proofs.lemmas.List.Elements.{All-nil}
use mathlib.Core.Path.{fun_ext}
use Rattle.slack_base.specs.declared.configs.RawConfig.{RawConfig}
use Rattle.slack_base.specs.declared.images.Image.{Image}
use Rattle.slack_base.specs.declared.messages.Post.{Post}
use Rattle.slack_base.proofs.InBounds.{InBounds, in_bounds}
use Rattle.mesi_cache.specs.declared.lines.CacheLine.{CacheLine}
use Rattle.mesi_cache.specs.declared.lines.HeldLine.{HeldLine}
use Rattle.mesi_cache.specs.declared.lines.Held.TheVariants.{Modified}
use Rattle.mesi_cache.specs.Lines.{held_line, may_write}
use Rattle.slack_base.specs.Bounds.{is_among}
use Rattle.mesi_cache.specs.Sets.{find_line}
use Rattle.mesi_cache.specs.Caches.{empty_cache}
use Rattle.mesi_cache.proofs.CacheSteps.{empty_is}
use Rattle.status_map.specs.declared.views.EntryView.{EntryView}
use Rattle.status_map.specs.Entries.{NamesBelow}
use Rattle.slack_base.specs.Numbers.{lines_of, numbers_of}
use Rattle.bus_model.specs.Channels.{ChannelValue, AsBus}
use Rattle.bus_model.specs.Starting.{first_entry, first_bus}
use Rattle.bus_model.proofs.Places.{place-inside}
use Rattle.timed_core.specs.Accesses.{held_in}
use Rattle.timed_core.specs.Code.{CodeValue, code_of}
use Rattle.slack_base.specs.Inboxes.{CoreValue}
use Rattle.timed_core.specs.Cores.{HartValue, first_core}
use Rattle.timed_core.proofs.Lawful.{all_starts}
use Rattle.first_memory.specs.Memory.{bytes_from}
use Rattle.target_law.specs.Cycles.{StateValue, lockstep}
use Rattle.lockstep_model.specs.Start.{start_of, first_core_value, first_console}
use Rattle.coherence_law.specs.Lines.{Nothing, Part, Line}
use Rattle.coherence_law.specs.Invariant.{Invariant}
use Rattle.coherence_law.specs.LineLaws.{AreCoherent}
use Rattle.coherence_law.proofs.Shown.{coherent}
use Rattle.coherence_law.specs.Breaks.{breaks_of, is_coherent, lines_in}
use Rattle.coherence_law.specs.Coherent.{held_of, held_at, IsInMemory, IsCoherent}
use Rattle.coherence_law.specs.Unbroken.{machine_after, AllCoherent, NoBreaks, NoBreaksOf}
use Rattle.coherence_law.proofs.Chans.{HasEntry, entry_found}
use Rattle.timed_core.proofs.Held.{held_below}
use Rattle.coherence_law.proofs.Testing.{all_tests, none_fail}
use Rattle.coherence_law.proofs.Cycling.{pick_of, inner_of, base_of, IsBetween, cycle_between}
use Rattle.coherence_law.proofs.Ticking.{IsFit, IsWorld, IsSent}
use Rattle.coherence_law.proofs.World.{IsLineOf}

whole_code : (image : Image) (config : RawConfig) → length (code_of image config).bytes ≡ config.memory
unfolding bytes_from
whole_code image config = length-map (range_with_len 0 config.memory) _ ∙ length-range_with_len 0 config.memory

-- each bus has equally many lines
even_lines : (memory buses : ℕ) → IsTrue (is_among buses (1 ∷ 2 ∷ 4 ∷ [])) → memory % 4096 ≡ 0 → (memory / 16) % buses ≡ 0
even_lines memory buses among pages = grind (arith, nat_tests)

pub fit_of : (config : RawConfig) (image : Image) → InBounds config → IsFit config (code_of image config)
fit_of config image b =
    let whole = whole_code image config in
    let pages = b.memory.0 in
    record {
      whole = omega arith;
      cores = b.cores.1;
      buses = let among = b.buses in grind (arith, nat_tests);
      snoop = b.snoop.0;
      memory = let late = b.memory_delay.0 in omega arith;
      transfer = b.transfer.0;
    }

-- lists made of numbers
module _ {X : Type 0} (f : ℕ → X) where
  get_made : (m n k j : ℕ) (ys : List X) → k < n → j ≡ m + k → slice_get (map f (range_with_len m n) ++ ys) k ≡ Some (f j)
  get_made m zero k j ys low e = absurd (omega arith)
  get_made m (suc n) zero j ys low e = let same : m ≡ j = omega arith in ap (λ i. Some (f i)) same
  get_made m (suc n) (suc k) j ys low e = get_made (m + 1) n k j ys (omega arith) (omega arith)

  get_after : (m n : ℕ) (y : X) (ys : List X) → slice_get (map f (range_with_len m n) ++ y ∷ ys) n ≡ Some y
  get_after m zero y ys = refl
  get_after m (suc n) y ys = get_after (m + 1) n y ys

-- an empty cache holds nothing
get_empty : (n k : ℕ) → get_or (replicate {A = List CacheLine} n []) k [] ≡ []
get_empty zero k = refl
get_empty (suc n) zero = refl
get_empty (suc n) (suc k) = get_empty n k

empty_held : (sets ways l : ℕ) → held_in (empty_cache sets ways) l ≡ None
empty_held sets ways l = ap (λ set. option_map held_line (find_line l set)) (get_empty sets (l % length (replicate {A = List CacheLine} sets [])))

number_of : (l n : ℕ) → l % n + n * (l / n) ≡ l
number_of l n = let e = div-add-mod' l n in omega (arith, mul_comm n (l / n))

module _ (config : RawConfig) (image : Image) where
  abbrev first_of : ℕ → HartValue
  first_of k = first_core config image.entry k

  inner_made : (m n k j : ℕ) → j ≡ m + k → pick_of (first_of j) (λ (x : CoreValue HartValue). x.inner) (slice_get (map (first_core_value config image.entry) (range_with_len m n)) k) ≡ first_of j
  inner_made m zero k j e = refl
  inner_made m (suc n) zero j e = let same : m ≡ j = omega arith in ap first_of same
  inner_made m (suc n) (suc k) j e = inner_made (m + 1) n k j (omega arith)

  base_made : (m n k : ℕ) → pick_of [] (λ (x : CoreValue HartValue). x.inbox) (slice_get (map (first_core_value config image.entry) (range_with_len m n)) k) ≡ []
  base_made m zero k = refl
  base_made m (suc n) zero = refl
  base_made m (suc n) (suc k) = base_made (m + 1) n k

  inner_first : (n : ℕ) → inner_of first_of (map (first_core_value config image.entry) (range_with_len 0 n)) ≡ first_of
  inner_first n = fun_ext (λ k. inner_made 0 n k k (omega arith))

  base_first : (n : ℕ) → base_of (map (first_core_value config image.entry) (range_with_len 0 n)) ≡ (λ k. [])
  base_first n = fun_ext (λ k. base_made 0 n k)

  abbrev no_part : Part
  no_part = record { held = None; want = Nothing; invalidate = None; snoop = None }

  abbrev first_line : ℕ → Line
  first_line l = record { entry = first_entry config image l; parts = λ c. no_part }

  first_kept : (l : ℕ) → Invariant 0 (first_line l)
  unfolding first_entry
  first_kept l = record {
    punctual = λ c. record { reply = tt; invalidate = tt; snoop = tt };
    settled = λ c. tt;
    kind = (λ c. record { held = refl; reply = tt; invalidate = refl }, λ c. refl);
  }

  module _ (b : InBounds config) where
    abbrev fit : IsFit config (code_of image config)
    fit = fit_of config image b

    first_has : (l : ℕ) → l < lines_of config → HasEntry config (start_of config image).chans l (first_entry config image l)
    unfolding first_bus
    first_has l within =
        let n = config.buses in
        let number = l % n in
        let low : number < n = mod-lt l fit.buses in
        let inside = place-inside (lines_of config) n l fit.buses (even_lines config.memory n b.buses b.memory.0) within in
        let made : ℕ → EntryView = λ place. first_entry config image (number + n * place) in
        let place = l / n in
        let same : number + n * place ≡ l = number_of l n in
        record {
          bus = first_bus config image number;
          at = get_made (λ k. AsBus (first_bus config image k)) 0 n number number (first_console ∷ []) low (omega arith);
          same = refl;
          its = subst (λ xs. slice_get xs place ≡ Some (made place)) (append-nil (map made (range_with_len 0 (lines_of config / n)))) (get_made made 0 (lines_of config / n) place place [] inside (omega arith))
              ∙ ap (λ j. Some (first_entry config image j)) same;
        }

    first_named : (l : ℕ) → NamesBelow config.cores (first_entry config image l).kind
    unfolding first_entry
    first_named l = tt

    first_world : IsWorld config 0 first_of (λ k. []) [] (start_of config image).chans
    first_world = record {
      asked = λ c. 0;
      entry = first_entry config image;
      lines = λ l within. record {
        line = first_line l;
        entry = refl;
        parts = λ c. record { held = sym (empty_held config.sets config.ways l); wants = refl; posts = record { answer = refl; invalidate = refl; snoop = refl } };
        kept = first_kept l;
      };
      has = first_has;
      named = first_named;
      console = record { console = record { bytes = []; highest = None }; at = get_after (λ k. AsBus (first_bus config image k)) 0 config.buses first_console [] };
      cores = record {
        cache = λ c. empty_is config.sets config.ways b.sets b.ways;
        sound = λ c low. (all_starts config image.entry c low).hart;
        number = λ c. refl;
        low = λ c. All-nil (λ (p : Post). p.line < lines_of config);
      };
      late = All-nil (IsSent config 0);
    }

    first_between : IsBetween config (code_of image config) fit first_of (start_of config image)
    first_between = record {
      count = length-map (range_with_len 0 config.cores) (first_core_value config image.entry) ∙ length-range_with_len 0 config.cores;
      world = subst (λ i. IsWorld config 0 i (base_of (start_of config image).cores) [] (start_of config image).chans) (sym (inner_first config.cores))
          (subst (λ ps. IsWorld config 0 first_of ps [] (start_of config image).chans) (sym (base_first config.cores)) first_world);
    }

    -- after every number of cycles
    all_between : (k : ℕ) → IsBetween config (code_of image config) fit first_of (machine_after config image k)
    unfolding lockstep
    all_between zero = first_between
    all_between (suc k) = cycle_between config (code_of image config) fit first_of (machine_after config image k) (all_between k)

-- a core that holds the line
record IsHolder (cores : List (CoreValue HartValue)) (c l : ℕ) (h : HeldLine) : Type 0 where
  core : CoreValue HartValue
  at : slice_get cores c ≡ Some core
  holds : held_in core.inner.cache l ≡ Some h

holder_of : (cores : List (CoreValue HartValue)) (c l : ℕ) (h : HeldLine) (o : Option (CoreValue HartValue)) → slice_get cores c ≡ o → held_of o l ≡ Some h → IsHolder cores c l h
holder_of cores c l h None at e = absurd (cc)
holder_of cores c l h (Some core) at e = record { core = core; at = at; holds = e }

not_held : (d : HartValue) (o : Option (CoreValue HartValue)) (l : ℕ) → held_in (pick_of d (λ x. x.inner) o).cache l ≡ None → held_of o l ≡ None
not_held d None l e = refl
not_held d (Some core) l e = e

module _ (config : RawConfig) (code : CodeValue) (fit : IsFit config code) (d : ℕ → HartValue) (s : StateValue HartValue ChannelValue) (is : IsBetween config code fit d s) (l : ℕ) where
  inner_is : (c : ℕ) (h : HeldLine) → held_at s c l ≡ Some h → held_in (inner_of d s.cores c).cache l ≡ Some h
  inner_is c h e =
      let holder = holder_of s.cores c l h (slice_get s.cores c) refl e in
      ap (λ o. held_in (pick_of (d c) (λ x. x.inner) o).cache l) holder.at ∙ holder.holds

  -- what is held is a line of memory
  within : (c : ℕ) (h : HeldLine) → held_at s c l ≡ Some h → l < lines_of config
  within c h e =
      let holder = holder_of s.cores c l h (slice_get s.cores c) refl e in
      let low : c < config.cores = let some = slice_get_within s.cores c holder.core holder.at in let count = is.count in omega arith in
      held_below (lines_of config) (inner_of d s.cores c).cache (is.world.cores.sound c low).cache.lines l h (inner_is c h e)

  module _ (inside : l < lines_of config) where
    abbrev line_is : IsLineOf s.clock l is.world.asked (inner_of d s.cores) (base_of s.cores) [] (is.world.entry l)
    line_is = is.world.lines l inside

    law : AreCoherent line_is.line.entry.words (λ c. (line_is.line.parts c).held)
    law = coherent s.clock line_is.line line_is.kept

    part_held : (c : ℕ) (h : HeldLine) → held_at s c l ≡ Some h → (line_is.line.parts c).held ≡ Some h
    part_held c h e = (line_is.parts c).held ∙ inner_is c h e

    none_beside : (c k : ℕ) (h : HeldLine) → held_at s c l ≡ Some h → may_write h.held ≡ true → k ≢ c → held_at s k l ≡ None
    none_beside c k h held may n = not_held (d k) (slice_get s.cores k) l (sym (line_is.parts k).held ∙ law.alone c k h (part_held c h held) may n)

    in_memory : (c : ℕ) (h : HeldLine) → held_at s c l ≡ Some h → h.held ≢ Modified → IsInMemory s l h.words
    in_memory c h held clean =
        let has = is.world.has l inside in
        record {
          number = l % config.buses;
          bus = AsBus has.bus;
          at = has.at;
          has = ap (option_map (λ (e : EntryView). e.words)) (entry_found config s.chans l (is.world.entry l) has)
              ∙ ap (λ (e : EntryView). Some e.words) (sym line_is.entry)
              ∙ ap Some (sym (law.same c h (part_held c h held) clean));
        }

  pub line_coherent : IsCoherent s l
  line_coherent = record {
    alone = λ c k h held. none_beside (within c h held) c k h held;
    same = λ c h held. in_memory (within c h held) c h held;
  }

module _ (config : RawConfig) (image : Image) (k : ℕ) (b : InBounds config) where
  coherent_after : (line : ℕ) → IsCoherent (machine_after config image k) line
  coherent_after line = line_coherent config (code_of image config) (fit_of config image b) (first_of config image) (machine_after config image k) (all_between config image b k) line

  unbroken : breaks_of (machine_after config image k) ≡ []
  unbroken =
      let m = machine_after config image k in
      none_fail (is_coherent m) 0 (lines_in m.chans) (λ line low. (all_tests m line).complete (coherent_after line))

pub all_coherent : AllCoherent
all_coherent config image k line fits = coherent_after config image k (in_bounds config fits) line

pub no_breaks : NoBreaks
no_breaks config image k fits = unbroken config image k (in_bounds config fits)

pub no_breaks_of : NoBreaksOf
no_breaks_of config image k = unbroken (numbers_of config) image k (record {
  cores = config.cores_in_bounds;
  base = config.base_in_bounds;
  memory = config.memory_in_bounds;
  sets = config.sets_in_bounds;
  ways = config.ways_in_bounds;
  buses = config.buses_in_bounds;
  snoop = config.snoop_in_bounds;
  memory_delay = config.memory_delay_in_bounds;
  transfer = config.transfer_in_bounds;
  occupancy = config.occupancy_in_bounds;
  slack = config.slack_in_bounds;
  interval = config.interval_in_bounds;
  limit = config.limit_in_bounds;
  quantum = config.quantum_in_bounds.1;
})
