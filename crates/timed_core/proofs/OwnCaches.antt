-- A cache keeps its sets and ways, and one that holds only lines below a bound goes on to, whatever is done to it.
use Rattle.std.proofs.Common.{◌≡◌, ℕ, ◌<◌, Bool, true, false, not, List, [], ◌∷◌, Option, None, Some, length, filter, map, get_or, slice_get, refl, sym, subst, inl, inr, cond, ◌∙◌, length-set}
use Rattle.std.specs.List.{All}
use Rattle.std.specs.Option.{IfSome}
use Rattle.std.proofs.Math.ListN.{get_or-eq_default}
use Rattle.std.proofs.lemmas.Bool.{cases_lt}
use Rattle.std.proofs.lemmas.List.Elements.{All-nil, All-cons, All-append, All-get_or, All-replicate, All-set, All-take, All-map, All-weaker, All-filter}
use Rattle.std.proofs.lemmas.List.{length-replicate}
use Rattle.std.proofs.lemmas.Option.{slice_get_within, get_or_from_slice_get}
use Rattle.slack_base.specs.Numbers.{lines_of}
use Rattle.slack_base.specs.declared.configs.RawConfig.{RawConfig}
use Rattle.mesi_cache.specs.declared.lines.CacheLine.{CacheLine}
use Rattle.mesi_cache.specs.Lines.{shared, written}
use Rattle.mesi_cache.specs.Sets.{is_line, others, to_front, fill_set, fallen, snoop_set}
use Rattle.mesi_cache.specs.Caches.{CacheValue, empty_cache, set_number, set_of, with_set, read_line, write_line, fill_line, victim_of, snoop_line}
use Rattle.timed_core.specs.Laws.{HoldsBelow, IsCacheOf}

module _ {X : Type 0} (P : X → Type 0) where
  -- an element is read, or what is read past the end
  all_read : (xs : List X) (i : ℕ) (d : X) → P d → All P xs → P (get_or xs i d)
  all_read xs i d h all = elim (cases_lt i (length xs)) [
    | inl within ↦ All-get_or P xs i d within all
    | inr past ↦ subst P (sym (get_or-eq_default xs d past)) h
  ]

  -- an element, if there is one
  some_read : (xs : List X) (i : ℕ) → All P xs → (o : Option X) → slice_get xs i ≡ o → IfSome o P
  some_read xs i all None at = tt
  some_read xs i all (Some x) at = subst P (get_or_from_slice_get xs i x x at) (all i x (slice_get_within xs i x at))

module _ (lines : ℕ) where
  abbrev IsBelow : CacheLine → Type 0
  IsBelow l = l.line < lines

  abbrev AllBelow : List CacheLine → Type 0
  AllBelow s = All IsBelow s

  -- a change that keeps the number of a line
  changed_below : (change : CacheLine → CacheLine) → ((l : CacheLine) → (change l).line ≡ l.line) → (s : List CacheLine) → AllBelow s → AllBelow (map change s)
  changed_below change keeps s h =
      All-map IsBelow change s (All-weaker IsBelow (λ l. IsBelow (change l)) (λ l low. subst (λ n. n < lines) (sym (keeps l)) low) s h)

  others_below : (line : ℕ) (s : List CacheLine) → AllBelow s → AllBelow (others line s)
  others_below line s h = All-filter (λ l. not (is_line line l)) IsBelow s h

  front_below : (change : CacheLine → CacheLine) → ((l : CacheLine) → (change l).line ≡ l.line) → (line : ℕ) (s : List CacheLine) → AllBelow s → AllBelow (to_front change line s)
  front_below change keeps line s h =
      All-append IsBelow (map change (filter (is_line line) s)) (others line s)
      (changed_below change keeps (filter (is_line line) s) (All-filter (is_line line) IsBelow s h))
      (others_below line s h)

  new_first : (new : CacheLine) (s : List CacheLine) → IsBelow new → AllBelow s → AllBelow (new ∷ others new.line s)
  new_first new s low h = All-cons IsBelow new (others new.line s) low (others_below new.line s h)

  fill_below : (ways : ℕ) (new : CacheLine) (s : List CacheLine) → IsBelow new → AllBelow s → AllBelow (fill_set ways new s)
  fill_below ways new s low h = All-take IsBelow ways (new ∷ others new.line s) (new_first new s low h)

  fallen_below : (ways : ℕ) (new : CacheLine) (s : List CacheLine) → IsBelow new → AllBelow s → IfSome (fallen ways new s) IsBelow
  fallen_below ways new s low h = some_read IsBelow (new ∷ others new.line s) ways (new_first new s low h) (fallen ways new s) refl

  shared_line : (line : ℕ) (l : CacheLine) → (cond (is_line line l) (shared l) l).line ≡ l.line
  shared_line line l = elim (is_line line l) as (λ b. (cond b (shared l) l).line ≡ l.line) [ true ↦ refl | false ↦ refl ]

  snoop_below : (line : ℕ) (own : Bool) (s : List CacheLine) → AllBelow s → AllBelow (snoop_set line own s)
  snoop_below line true s h = others_below line s h
  snoop_below line false s h = changed_below (λ l. cond (is_line line l) (shared l) l) (shared_line line) s h

  -- the set where a line belongs
  its_set : (c : CacheValue) (line : ℕ) → HoldsBelow lines c → AllBelow (set_of c line)
  its_set c line h = all_read AllBelow c.sets (set_number c line) [] (All-nil IsBelow) h

module _ (config : RawConfig) where
  abbrev Below : List CacheLine → Type 0
  Below s = AllBelow (lines_of config) s

  set_put : (c : CacheValue) (line : ℕ) (s : List CacheLine) → IsCacheOf config c → Below s → IsCacheOf config (with_set c line s)
  set_put c line s h low = record {
    shape = record { number_of_sets = length-set c.sets (set_number c line) s ∙ h.shape.number_of_sets; number_of_ways = h.shape.number_of_ways };
    lines = All-set (AllBelow (lines_of config)) c.sets (set_number c line) s low h.lines;
  }

  own_set : (c : CacheValue) (line : ℕ) → IsCacheOf config c → Below (set_of c line)
  own_set c line h = its_set (lines_of config) c line h.lines

  pub read_holds : (c : CacheValue) (line : ℕ) → IsCacheOf config c → IsCacheOf config (read_line c line)
  read_holds c line h = set_put c line _ h (front_below (lines_of config) (λ l. l) (λ l. refl) line (set_of c line) (own_set c line h))

  pub write_holds : (c : CacheValue) (line place value : ℕ) → IsCacheOf config c → IsCacheOf config (write_line c line place value)
  write_holds c line place value h = set_put c line _ h (front_below (lines_of config) (written place value) (λ l. refl) line (set_of c line) (own_set c line h))

  pub fill_holds : (c : CacheValue) (new : CacheLine) → new.line < lines_of config → IsCacheOf config c → IsCacheOf config (fill_line c new)
  fill_holds c new low h = set_put c new.line _ h (fill_below (lines_of config) c.ways new (set_of c new.line) low (own_set c new.line h))

  pub snoop_holds : (c : CacheValue) (line : ℕ) (own : Bool) → IsCacheOf config c → IsCacheOf config (snoop_line c line own)
  snoop_holds c line own h = set_put c line _ h (snoop_below (lines_of config) line own (set_of c line) (own_set c line h))

  pub victim_below : (c : CacheValue) (new : CacheLine) → new.line < lines_of config → IsCacheOf config c → IfSome (victim_of c new) (λ l. l.line < lines_of config)
  victim_below c new low h = fallen_below (lines_of config) c.ways new (set_of c new.line) low (own_set c new.line h)

  pub empty_holds : IsCacheOf config (empty_cache config.sets config.ways)
  empty_holds = record {
    shape = record { number_of_sets = length-replicate config.sets []; number_of_ways = refl };
    lines = All-replicate (AllBelow (lines_of config)) config.sets [] (All-nil (IsBelow (lines_of config)));
  }
