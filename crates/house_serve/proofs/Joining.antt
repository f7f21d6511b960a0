-- What all doors of a house come to at one clock.
use Rattle.std.proofs.Common.{◌≡◌, ⊎_elim, ℕ, zero, suc, ◌+◌, ◌<◌, ◌≤◌, Bool, nat_eq, cond, List, [], ◌∷◌, ◌++◌, length, map, take, drop, get_or, Some, refl, sym, ◌∙◌, ap, subst, arith, append_assoc}
use Rattle.std.specs.Prelude.{slice_get}
use Rattle.std.specs.List.{AllByRecursion, flat_map}
use Rattle.std.proofs.lemmas.Bool.{cases_eq, cases_lt, ne_eqb, eq-eqb}
use Rattle.std.proofs.lemmas.Bool.Decides.{nat_tests}
use Rattle.std.proofs.lemmas.Option.{slice_get_within}
use mathlib.Core.Option.{some, some-injective, some-ne-none}
use lib.ListN.{get_elem?}
use Rattle.demand_set.specs.declared.reports.Report.{Report}
use Rattle.report_wire.proofs.Streams.{all-append}
use Rattle.clock_book.specs.DeskHistories.{IsInDoubt}
use Rattle.clock_book.specs.declared.entries.Entry.{Entry}
use Rattle.clock_book.specs.declared.entries.Entry.TheVariants as entry
use Rattle.clock_book.specs.declared.origins.Origin.{Origin}
use Rattle.turn_desk.specs.Histories.{StartsWith, StandIn, times_at, total, between, one_if}
use Rattle.turn_desk.specs.Passes.{Known}
use Rattle.turn_desk.proofs.Totals.{between_in}
use Rattle.clock_family.specs.Houses.{HousePassOf, still, column}
use Rattle.session.specs.Turns.{Turn}
use Rattle.house_serve.specs.Houses.{DoorRun, turns_of, seen_of, mark_place, mark_places, taken_place, taken_places, times, IsHeld, Joins}
use Rattle.house_serve.proofs.Leading.{own_of, marks_own, offers_own, IsBehind, AreBehind, Leads, Led, led, seen_at, own_at}

all-map : {A : Type 0} (P Q : A → Type 0) (xs : List A) → ((x : A) → P x → Q x) → AllByRecursion P xs → AllByRecursion Q xs
all-map P Q [] f h = tt
all-map P Q (x ∷ xs) f h = (f x h.0, all-map P Q xs f h.1)

all-both : {A : Type 0} (P Q : A → Type 0) (xs : List A) → AllByRecursion P xs → AllByRecursion Q xs → AllByRecursion (λ x. P x × Q x) xs
all-both P Q [] p q = tt
all-both P Q (x ∷ xs) p q = ((p.0, q.0), all-both P Q xs p.1 q.1)

-- the element at a place, as a list
one_at : {A : Type 0} (xs : List A) (k : ℕ) (d : A) → k < length xs → take 1 (drop k xs) ≡ get_or xs k d ∷ []
one_at [] k d below = absurd (omega (arith, below))
one_at (x ∷ xs) zero d below = refl
one_at (x ∷ xs) (suc k) d below = one_at xs k d (omega (arith, below))

got : (xs : List Entry) (k : ℕ) (x : Entry) → get_elem? xs k ≡ some x → slice_get xs k ≡ Some x
got [] k x e = absurd (some-ne-none x (sym e))
got (y ∷ ys) zero x e = ap (λ (z : Entry). Some z) (some-injective y x e)
got (y ∷ ys) (suc k) x e = got ys k x e

times_hit : (k n : ℕ) (r : Report) (more : List (ℕ × Report)) → n ≡ k → times k ((n, r) ∷ more) ≡ 1 + times k more
times_hit k n r more e = ap (λ (b : Bool). cond b 1 0 + times k more) (eq-eqb n k e)

times_miss : (k n : ℕ) (r : Report) (more : List (ℕ × Report)) → (n ≡ k → ⊥) → times k ((n, r) ∷ more) ≡ times k more
times_miss k n r more e = let h = ap (λ (b : Bool). cond b 1 0 + times k more) (ne_eqb n k e) in omega (arith, h)

one_hit : (k n : ℕ) → n ≡ k → one_if (nat_eq k n) ≡ 1
one_hit k n e = ap one_if (eq-eqb k n (sym e))

one_miss : (k n : ℕ) → (n ≡ k → ⊥) → one_if (nat_eq k n) ≡ 0
one_miss k n e = ap one_if (ne_eqb k n (λ f. e (sym f)))

times_on : (k : ℕ) (xs ys : List (ℕ × Report)) → times k (xs ++ ys) ≡ times k xs + times k ys
times_on k [] ys = omega arith
times_on k ((n, r) ∷ xs) ys =
    let h = times_on k xs ys in
    ⊎_elim
    (λ e. let a = times_hit k n r (xs ++ ys) e in let b = times_hit k n r xs e in omega (arith, h, a, b))
    (λ e. let a = times_miss k n r (xs ++ ys) e in let b = times_miss k n r xs e in omega (arith, h, a, b))
    (cases_eq n k)

-- each place stands in the list
each_in : (done xs : List (ℕ × Report)) → AllByRecursion (λ (e : ℕ × Report). 1 ≤ times e.0 (done ++ xs)) xs
each_in done [] = tt
each_in done ((n, r) ∷ xs) = (
  (let a = times_on n done ((n, r) ∷ xs) in let b = times_hit n n r xs refl in omega (arith, a, b)),
  subst (λ (l : List (ℕ × Report)). AllByRecursion (λ (e : ℕ × Report). 1 ≤ times e.0 l) xs) (append_assoc done ((n, r) ∷ []) xs) (each_in (done ++ (n, r) ∷ []) xs),
)

-- the report stands at its place, marked, or noted as offered
abbrev IsMarkAt : List Entry → ℕ × Report → Type 0
IsMarkAt closed e = slice_get closed e.0 ≡ Some (entry.Mark e.1)

abbrev IsOfferedAt : List Entry → ℕ × Report → Type 0
IsOfferedAt closed e = slice_get closed e.0 ≡ Some (entry.Offered e.1)

marks_stand : (closed : List Entry) (own : List (ℕ × Entry)) → StandIn closed own → AllByRecursion (IsMarkAt closed) (marks_own own)
marks_stand closed [] h = tt
marks_stand closed ((j, entry.Offered r) ∷ own) h = marks_stand closed own h.1
marks_stand closed ((j, entry.Counted r) ∷ own) h = marks_stand closed own h.1
marks_stand closed ((j, entry.Mark r) ∷ own) h = (got closed j (entry.Mark r) h.0, marks_stand closed own h.1)

offers_stand : (closed : List Entry) (own : List (ℕ × Entry)) → StandIn closed own → AllByRecursion (IsOfferedAt closed) (offers_own own)
offers_stand closed [] h = tt
offers_stand closed ((j, entry.Offered r) ∷ own) h = (got closed j (entry.Offered r) h.0, offers_stand closed own h.1)
offers_stand closed ((j, entry.Counted r) ∷ own) h = offers_stand closed own h.1
offers_stand closed ((j, entry.Mark r) ∷ own) h = offers_stand closed own h.1

-- where one entry stands, no other does
elsewhere : (closed : List Entry) (j k : ℕ) (e x : Entry) → get_elem? closed j ≡ some e → slice_get closed k ≡ Some x → (e ≡ x → ⊥) → j ≡ k → ⊥
elsewhere closed j k e x here there apart same = apart (let f : Some e ≡ Some x = sym (got closed j e here) ∙ ap (slice_get closed) same ∙ there in cc)

offers_count : (closed : List Entry) (k : ℕ) (r : Report) (own : List (ℕ × Entry)) → slice_get closed k ≡ Some (entry.Offered r) → StandIn closed own → times k (offers_own own) ≡ times_at k own
offers_count closed k r [] at h = refl
offers_count closed k r ((j, entry.Offered q) ∷ own) at h =
    let g = offers_count closed k r own at h.1 in
    ⊎_elim
    (λ e. let a = times_hit k j q (offers_own own) e in let b = one_hit k j e in omega (arith, g, a, b))
    (λ e. let a = times_miss k j q (offers_own own) e in let b = one_miss k j e in omega (arith, g, a, b))
    (cases_eq j k)
offers_count closed k r ((j, entry.Counted q) ∷ own) at h =
    let g = offers_count closed k r own at h.1 in
    let b = one_miss k j (elsewhere closed j k (entry.Counted q) (entry.Offered r) h.0 at (λ e. cc)) in
    omega (arith, g, b)
offers_count closed k r ((j, entry.Mark q) ∷ own) at h =
    let g = offers_count closed k r own at h.1 in
    let b = one_miss k j (elsewhere closed j k (entry.Mark q) (entry.Offered r) h.0 at (λ e. cc)) in
    omega (arith, g, b)

marks_count : (closed : List Entry) (k : ℕ) (r : Report) (own : List (ℕ × Entry)) → slice_get closed k ≡ Some (entry.Mark r) → StandIn closed own → times k (marks_own own) ≡ times_at k own
marks_count closed k r [] at h = refl
marks_count closed k r ((j, entry.Offered q) ∷ own) at h =
    let g = marks_count closed k r own at h.1 in
    let b = one_miss k j (elsewhere closed j k (entry.Offered q) (entry.Mark r) h.0 at (λ e. cc)) in
    omega (arith, g, b)
marks_count closed k r ((j, entry.Counted q) ∷ own) at h =
    let g = marks_count closed k r own at h.1 in
    let b = one_miss k j (elsewhere closed j k (entry.Counted q) (entry.Mark r) h.0 at (λ e. cc)) in
    omega (arith, g, b)
marks_count closed k r ((j, entry.Mark q) ∷ own) at h =
    let g = marks_count closed k r own at h.1 in
    ⊎_elim
    (λ e. let a = times_hit k j q (marks_own own) e in let b = one_hit k j e in omega (arith, g, a, b))
    (λ e. let a = times_miss k j q (marks_own own) e in let b = one_miss k j e in omega (arith, g, a, b))
    (cases_eq j k)

-- a place at which a report is noted as counted, among places of entries that stand in the history
found_behind : (closed : List Entry) (k : ℕ) (r : Report) (own : List (ℕ × Entry)) → slice_get closed k ≡ Some (entry.Counted r) → StandIn closed own → AreBehind closed own → 1 ≤ times_at k own → IsInDoubt (take k closed) r
found_behind closed k r [] at stand behind once = absurd (omega (arith, once))
found_behind closed k r ((j, e) ∷ own) at stand behind once =
    ⊎_elim
    (λ (same : j ≡ k).
    let is : e ≡ entry.Counted r = (let f : Some e ≡ Some (entry.Counted r) = sym (got closed j e stand.0) ∙ ap (slice_get closed) same ∙ at in cc) in
    subst (λ (n : ℕ). IsInDoubt (take n closed) r) same (subst (λ (x : Entry). IsBehind closed (j, x)) is behind.0))
    (λ other. let b = one_miss k j other in found_behind closed k r own at stand.1 behind.1 (omega (arith, once, b)))
    (cases_eq j k)

one_between : (a b k : ℕ) → a ≤ k → k < b → between a b k ≡ 1
one_between a b k low high = grind (arith, nat_tests, one_if)

-- a door's turns led its pass on from the opening, with no entries of its own
pub record RunsAt {R L : Type 0} (clock : ℕ) (opening : List Entry) (d : DoorRun R L) : Type 0 where
  pub leads : Leads d.before (turns_of d) d.after
  pub opened : seen_of d.before clock ≡ opening
  pub none : own_of d.before clock ≡ []
  pub within : clock < length d.after.passes

-- What closing says of a clock: the history of the closed book begins with that at the opening and with what each pass has seen, it
-- has each pass's own entries at their places, and each place beyond the opening is the own place of just one pass.
pub record ClosesOver (opening closed : List Entry) (passes : List (Known Entry Origin)) : Type 0 where
  pub goes_on : StartsWith closed opening
  pub seen : AllByRecursion (λ (p : Known Entry Origin). StartsWith closed p.seen) passes
  pub own : AllByRecursion (λ (p : Known Entry Origin). StandIn closed p.own) passes
  pub places : (k : ℕ) → total (λ (p : Known Entry Origin). times_at k p.own) passes ≡ between (length opening) (length closed) k

-- the turns of all doors
abbrev pub all_turns : {R L : Type 0} → List (DoorRun R L) → List (Turn HousePassOf)
all_turns ds = flat_map turns_of ds

marks_over : (clock : ℕ) (ts us : List (Turn HousePassOf)) → mark_places clock (ts ++ us) ≡ mark_places clock ts ++ mark_places clock us
marks_over clock [] us = refl
marks_over clock (t ∷ ts) us = ap (λ (l : List (ℕ × Report)). mark_place clock t.now t.asked ++ l) (marks_over clock ts us) ∙ sym (append_assoc (mark_place clock t.now t.asked) (mark_places clock ts) (mark_places clock us))

takens_over : (clock : ℕ) (ts us : List (Turn HousePassOf)) → taken_places clock (ts ++ us) ≡ taken_places clock ts ++ taken_places clock us
takens_over clock [] us = refl
takens_over clock (t ∷ ts) us = ap (λ (l : List (ℕ × Report)). taken_place clock t.now t.asked ++ l) (takens_over clock ts us) ∙ sym (append_assoc (taken_place clock t.now t.asked) (taken_places clock ts) (taken_places clock us))

module _ {R L : Type 0} (blank : Known Entry Origin) (clock : ℕ) (opening closed : List Entry) where
  -- the pass of a door at this clock, at last
  abbrev last_of : DoorRun R L → Known Entry Origin
  last_of d = get_or d.after.passes clock (still blank)

  pub column_is : (ds : List (DoorRun R L)) → AllByRecursion (RunsAt clock opening) ds → column clock (map (λ (d : DoorRun R L). d.after) ds) ≡ map last_of ds
  column_is [] runs = refl
  column_is (d ∷ ds) runs = (λ i. one_at d.after.passes clock (still blank) runs.0.within i ++ column_is ds runs.1 i)

  module _ (d : DoorRun R L) (run : RunsAt clock opening d) where
    door : Led blank clock closed (turns_of d) d.before d.after
    door = led blank clock closed (turns_of d) d.before d.after run.leads

    own_is : (last_of d).own ≡ door.new
    own_is = sym (own_at blank clock closed d.after) ∙ door.own ∙ ap (λ (l : List (ℕ × Entry)). l ++ door.new) run.none

    goes_to : StartsWith closed (last_of d).seen → StartsWith closed (seen_of d.after clock)
    goes_to goes = subst (λ (l : List Entry). StartsWith closed l) (sym (seen_at blank clock closed d.after)) goes

    door_marks : mark_places clock (turns_of d) ≡ marks_own (last_of d).own
    door_marks = sym door.marks ∙ ap marks_own (sym own_is)

    door_takens : taken_places clock (turns_of d) ≡ offers_own (last_of d).own
    door_takens = sym door.takens ∙ ap offers_own (sym own_is)

    door_points : StartsWith closed (last_of d).seen → AllByRecursion (λ (t : Turn HousePassOf). StartsWith (seen_of t.now clock) opening × StartsWith closed (seen_of t.now clock)) (turns_of d)
    door_points goes =
        subst (λ (l : List Entry). AllByRecursion (λ (t : Turn HousePassOf). StartsWith (seen_of t.now clock) l × StartsWith closed (seen_of t.now clock)) (turns_of d)) run.opened (door.points (goes_to goes))

    door_behind : StartsWith closed (last_of d).seen → AreBehind closed (last_of d).own
    door_behind goes = subst (AreBehind closed) (sym own_is) (door.behind (goes_to goes))

    door_held : StartsWith closed (last_of d).seen → AllByRecursion (λ (t : Turn HousePassOf). IsHeld clock closed t.asked) (turns_of d)
    door_held goes = door.held (goes_to goes)

  abbrev Seen : List (DoorRun R L) → Type 0
  Seen ds = AllByRecursion (λ (p : Known Entry Origin). StartsWith closed p.seen) (map last_of ds)

  abbrev Own : List (DoorRun R L) → Type 0
  Own ds = AllByRecursion (λ (p : Known Entry Origin). StandIn closed p.own) (map last_of ds)

  abbrev Count : ℕ → List (DoorRun R L) → ℕ
  Count k ds = total (λ (p : Known Entry Origin). times_at k p.own) (map last_of ds)

  points_all : (ds : List (DoorRun R L)) → AllByRecursion (RunsAt clock opening) ds → Seen ds → AllByRecursion (λ (t : Turn HousePassOf). StartsWith (seen_of t.now clock) opening × StartsWith closed (seen_of t.now clock)) (all_turns ds)
  points_all [] runs seen = tt
  points_all (d ∷ ds) runs seen =
      all-append (λ (t : Turn HousePassOf). StartsWith (seen_of t.now clock) opening × StartsWith closed (seen_of t.now clock)) (turns_of d) (all_turns ds) (door_points d runs.0 seen.0) (points_all ds runs.1 seen.1)

  held_all : (ds : List (DoorRun R L)) → AllByRecursion (RunsAt clock opening) ds → Seen ds → AllByRecursion (λ (t : Turn HousePassOf). IsHeld clock closed t.asked) (all_turns ds)
  held_all [] runs seen = tt
  held_all (d ∷ ds) runs seen = all-append (λ (t : Turn HousePassOf). IsHeld clock closed t.asked) (turns_of d) (all_turns ds) (door_held d runs.0 seen.0) (held_all ds runs.1 seen.1)

  marked_all : (ds : List (DoorRun R L)) → AllByRecursion (RunsAt clock opening) ds → Own ds → AllByRecursion (IsMarkAt closed) (mark_places clock (all_turns ds))
  marked_all [] runs own = tt
  marked_all (d ∷ ds) runs own =
      subst (AllByRecursion (IsMarkAt closed)) (sym (marks_over clock (turns_of d) (all_turns ds)))
      (all-append (IsMarkAt closed) (mark_places clock (turns_of d)) (mark_places clock (all_turns ds))
      (subst (AllByRecursion (IsMarkAt closed)) (sym (door_marks d runs.0)) (marks_stand closed (last_of d).own own.0))
      (marked_all ds runs.1 own.1))

  took_all : (ds : List (DoorRun R L)) → AllByRecursion (RunsAt clock opening) ds → Own ds → AllByRecursion (IsOfferedAt closed) (taken_places clock (all_turns ds))
  took_all [] runs own = tt
  took_all (d ∷ ds) runs own =
      subst (AllByRecursion (IsOfferedAt closed)) (sym (takens_over clock (turns_of d) (all_turns ds)))
      (all-append (IsOfferedAt closed) (taken_places clock (turns_of d)) (taken_places clock (all_turns ds))
      (subst (AllByRecursion (IsOfferedAt closed)) (sym (door_takens d runs.0)) (offers_stand closed (last_of d).own own.0))
      (took_all ds runs.1 own.1))

  faulted_all : (k : ℕ) (r : Report) (ds : List (DoorRun R L)) → slice_get closed k ≡ Some (entry.Mark r) → AllByRecursion (RunsAt clock opening) ds → Own ds → times k (mark_places clock (all_turns ds)) ≡ Count k ds
  faulted_all k r [] at runs own = refl
  faulted_all k r (d ∷ ds) at runs own =
      let h = faulted_all k r ds at runs.1 own.1 in
      let a = ap (times k) (marks_over clock (turns_of d) (all_turns ds)) in
      let b = times_on k (mark_places clock (turns_of d)) (mark_places clock (all_turns ds)) in
      let e = ap (times k) (door_marks d runs.0) in
      let f = marks_count closed k r (last_of d).own at own.0 in
      omega (arith, h, a, b, e, f)

  takens_all : (k : ℕ) (r : Report) (ds : List (DoorRun R L)) → slice_get closed k ≡ Some (entry.Offered r) → AllByRecursion (RunsAt clock opening) ds → Own ds → times k (taken_places clock (all_turns ds)) ≡ Count k ds
  takens_all k r [] at runs own = refl
  takens_all k r (d ∷ ds) at runs own =
      let h = takens_all k r ds at runs.1 own.1 in
      let a = ap (times k) (takens_over clock (turns_of d) (all_turns ds)) in
      let b = times_on k (taken_places clock (turns_of d)) (taken_places clock (all_turns ds)) in
      let e = ap (times k) (door_takens d runs.0) in
      let f = offers_count closed k r (last_of d).own at own.0 in
      omega (arith, h, a, b, e, f)

  behind_all : (k : ℕ) (r : Report) (ds : List (DoorRun R L)) → slice_get closed k ≡ Some (entry.Counted r) → AllByRecursion (RunsAt clock opening) ds → Seen ds → Own ds → 1 ≤ Count k ds → IsInDoubt (take k closed) r
  behind_all k r [] at runs seen own once = absurd (omega (arith, once))
  behind_all k r (d ∷ ds) at runs seen own once =
      ⊎_elim
      (λ (here : 0 < times_at k (last_of d).own). found_behind closed k r (last_of d).own at own.0 (door_behind d runs.0 seen.0) (omega (arith, here)))
      (λ none. behind_all k r ds at runs.1 seen.1 own.1 (omega (arith, none, once)))
      (cases_lt 0 (times_at k (last_of d).own))

  -- a place that a pass has made lies beyond the opening
  beyond_opening : (k n : ℕ) (ds : List (DoorRun R L)) → ClosesOver opening closed (map last_of ds) → n ≡ Count k ds → 1 ≤ n → length opening ≤ k
  beyond_opening k n ds c e once = let o = c.places k in (between_in (length opening) (length closed) k (omega (arith, e, o, once))).0

  pub joined : (ds : List (DoorRun R L)) → AllByRecursion (RunsAt clock opening) ds → ClosesOver opening closed (map last_of ds) → Joins opening closed (all_turns ds) clock
  joined ds runs c =
      let marks = mark_places clock (all_turns ds) in
      let takens = taken_places clock (all_turns ds) in
      record {
        opened = c.goes_on;
        points = points_all ds runs c.seen;
        took = all-map (λ (e : ℕ × Report). (1 ≤ times e.0 takens) × IsOfferedAt closed e) (λ (e : ℕ × Report). (length opening ≤ e.0) × IsOfferedAt closed e) takens
            (λ e h. (beyond_opening e.0 (times e.0 takens) ds c (takens_all e.0 e.1 ds h.1 runs c.own) h.0, h.1))
            (all-both (λ (e : ℕ × Report). 1 ≤ times e.0 takens) (IsOfferedAt closed) takens (each_in [] takens) (took_all ds runs c.own));
        taken = λ k r beyond at. takens_all k r ds at runs c.own ∙ c.places k ∙ one_between (length opening) (length closed) k beyond (slice_get_within closed k (entry.Offered r) at);
        marked = all-map (λ (e : ℕ × Report). (1 ≤ times e.0 marks) × IsMarkAt closed e) (λ (e : ℕ × Report). (length opening ≤ e.0) × IsMarkAt closed e) marks
            (λ e h. (beyond_opening e.0 (times e.0 marks) ds c (faulted_all e.0 e.1 ds h.1 runs c.own) h.0, h.1))
            (all-both (λ (e : ℕ × Report). 1 ≤ times e.0 marks) (IsMarkAt closed) marks (each_in [] marks) (marked_all ds runs c.own));
        faulted = λ k r beyond at. faulted_all k r ds at runs c.own ∙ c.places k ∙ one_between (length opening) (length closed) k beyond (slice_get_within closed k (entry.Mark r) at);
        counted = λ k r beyond at.
            let o = c.places k in
            let b = one_between (length opening) (length closed) k beyond (slice_get_within closed k (entry.Counted r) at) in
            behind_all k r ds at runs c.seen c.own (omega (arith, o, b));
        held = held_all ds runs c.seen;
      }
