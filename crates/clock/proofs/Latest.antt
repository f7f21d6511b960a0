-- The latest demands of the bidders, and who has reported, as reports come and rounds go.
use Rattle.std.proofs.Common.{◌≡◌, ◌≢◌, ◌≤◌, ◌⊎◌, inl, inr, ℕ, zero, suc, ◌+◌, ◌-◌, Bool, true, false, cond, List, [], ◌∷◌, length, length-set, set, replicate, Option, Some, None, is_some, refl, sym, ◌∙◌, ap, arith}
use Rattle.std.specs.Prelude.{slice_index_or, unwrap_or, find, is_none, not}
use Rattle.std.specs.List.{AllByRecursion}
use Rattle.std.proofs.lemmas.Bool.{cases_eq}
use Rattle.std.proofs.lemmas.List.{get_or-set_same, get_or-set_other}
use Rattle.demand_set.specs.declared.reports.Report.{Report}
use Rattle.clock.specs.Reports.{ClockHistory, demand_in, demands_in, is_full, members_of, with_report}
use Rattle.clock.specs.Standing.{missing_of, steps_of}
use Rattle.clock.specs.Judging.{is_member}
use Rattle.clock.specs.Kept.{KeepsLatest, demand_at}
use Rattle.clock.proofs.Present.{reported}
use Rattle.clock.proofs.Pushed.{IsNew, demand-new, demand-other}
use Rattle.clock.proofs.Repeated.{part, member-of_all}
use Rattle.clock.proofs.Taking.{member-small}

-- an option that is not there
pub some-there : {A : Type 0} (o : Option A) → is_some o ≡ false → o ≡ None
some-there None e = refl
some-there (Some x) e = absurd (let f : true ≡ false = e in cc)

none-marked : (n j : ℕ) → slice_index_or (replicate n false) j false ≡ false
none-marked zero j = refl
none-marked (suc n) zero = refl
none-marked (suc n) (suc j) = none-marked n j

none-latest : (n j : ℕ) → let none : Option (List (List ℕ)) = None in slice_index_or (replicate n none) j none ≡ none
none-latest zero j = refl
none-latest (suc n) zero = refl
none-latest (suc n) (suc j) = none-latest n j

-- what is looked up is what was reported
pub latest-at : (c : ClockHistory) (round : ℕ) (latest : List (Option (List (List ℕ)))) (marks : List Bool) (j : ℕ) → KeepsLatest c round latest marks → demand_at latest marks j ≡ demand_in c.reports round j
latest-at c round latest marks j k = by (is_some (demand_in c.reports round j)) refl
  where
    by : (b : Bool) → is_some (demand_in c.reports round j) ≡ b → demand_at latest marks j ≡ demand_in c.reports round j
    by true e = ap (λ b. cond b (slice_index_or latest j None) None) (k.marked j ∙ e) ∙ k.own j e
    by false e = ap (λ b. cond b (slice_index_or latest j None) None) (k.marked j ∙ e) ∙ sym (some-there (demand_in c.reports round j) e)

-- a clock without reports
pub latest-first : (c : ClockHistory) (round : ℕ) (latest : List (Option (List (List ℕ)))) → c.reports ≡ [] → latest ≡ replicate 13 None → KeepsLatest c round latest (replicate 13 false)
latest-first c round latest none are = record {
  places = ap length are;
  seats = refl;
  marked = λ j. none-marked 13 j ∙ sym (ap (λ rs. is_some (demand_in rs round j)) none);
  own = λ j some. absurd (let f : false ≡ true = sym (ap (λ rs. is_some (demand_in rs round j)) none) ∙ some in cc);
  earlier = λ j member absent. (ap (λ ds. slice_index_or ds j None) are ∙ none-latest 13 j) ∙ sym (ap (λ rs. demand_in rs (round - 1) j) none);
  nobody = λ j outside. (ap (λ ds. slice_index_or ds j None) are ∙ none-latest 13 j);
}

-- with a report more
pub latest-taken : (c : ClockHistory) (r : Report) (steps : ℕ) (latest : List (Option (List (List ℕ)))) (marks : List Bool) → IsNew c r steps → KeepsLatest c (steps + 1) latest marks
    → KeepsLatest (with_report c r) (steps + 1) (set latest r.bidder (Some r.demand)) (set marks r.bidder true)
latest-taken c r steps latest marks new k = record {
  places = length-set latest r.bidder (Some r.demand) ∙ k.places;
  seats = length-set marks r.bidder true ∙ k.seats;
  marked = λ j. marked j (cases_eq j r.bidder);
  own = λ j some. own j some (cases_eq j r.bidder);
  earlier = λ j member absent. earlier j member absent (cases_eq j r.bidder);
  nobody = λ j outside. get_or-set_other latest r.bidder j (Some r.demand) None (apart j outside) ∙ k.nobody j outside;
}
  where
    apart : (j : ℕ) → is_member c j ≡ false → j ≢ r.bidder
    apart j outside same = (let f : false ≡ true = sym outside ∙ ap (is_member c) same ∙ new.member in cc)

    other-demand : (round j : ℕ) → j ≢ r.bidder → demand_in (with_report c r).reports round j ≡ demand_in c.reports round j
    other-demand round j other = demand-other c r round j (λ e. other (sym e))

    new-demand : (j : ℕ) → j ≡ r.bidder → demand_in (with_report c r).reports (steps + 1) j ≡ Some r.demand
    new-demand j same = ap (demand_in (with_report c r).reports (steps + 1)) same ∙ demand-new c r steps new

    marked : (j : ℕ) → (j ≡ r.bidder) ⊎ (j ≢ r.bidder) → slice_index_or (set marks r.bidder true) j false ≡ is_some (demand_in (with_report c r).reports (steps + 1) j)
    marked j (inl same) =
        let small = member-small c r.bidder new.member in
        let n = k.seats in
        ap (λ b. slice_index_or (set marks r.bidder true) b false) same ∙ get_or-set_same marks r.bidder true false (omega (arith, small, n)) ∙ sym (ap is_some (new-demand j same))
    marked j (inr other) = get_or-set_other marks r.bidder j true false other ∙ k.marked j ∙ sym (ap is_some (other-demand (steps + 1) j other))

    own : (j : ℕ) → is_some (demand_in (with_report c r).reports (steps + 1) j) ≡ true → (j ≡ r.bidder) ⊎ (j ≢ r.bidder) → slice_index_or (set latest r.bidder (Some r.demand)) j None ≡ demand_in (with_report c r).reports (steps + 1) j
    own j some (inl same) =
        let small = member-small c r.bidder new.member in
        let n = k.places in
        ap (λ b. slice_index_or (set latest r.bidder (Some r.demand)) b None) same ∙ get_or-set_same latest r.bidder (Some r.demand) None (omega (arith, small, n)) ∙ sym (new-demand j same)
    own j some (inr other) =
        let e = other-demand (steps + 1) j other in
        get_or-set_other latest r.bidder j (Some r.demand) None other ∙ k.own j (sym (ap is_some e) ∙ some) ∙ sym e

    earlier : (j : ℕ) → is_member c j ≡ true → demand_in (with_report c r).reports (steps + 1) j ≡ None → (j ≡ r.bidder) ⊎ (j ≢ r.bidder)
        → slice_index_or (set latest r.bidder (Some r.demand)) j None ≡ demand_in (with_report c r).reports (steps + 1 - 1) j
    earlier j member absent (inl same) = absurd (let f : None ≡ Some r.demand = sym absent ∙ new-demand j same in cc)
    earlier j member absent (inr other) =
        get_or-set_other latest r.bidder j (Some r.demand) None other
        ∙ k.earlier j member (sym (other-demand (steps + 1) j other) ∙ absent)
        ∙ sym (other-demand (steps + 1 - 1) j other)

-- once each member has reported, and nobody in the next round
pub latest-turned : (c : ClockHistory) (steps : ℕ) (latest : List (Option (List (List ℕ)))) (marks : List Bool) → is_full (members_of c) c.reports (steps + 1) ≡ true → ((j : ℕ) → demand_in c.reports (steps + 1 + 1) j ≡ None) → KeepsLatest c (steps + 1) latest marks
    → KeepsLatest c (steps + 1 + 1) latest (replicate 13 false)
latest-turned c steps latest marks full none k =
    let e : steps + 1 ≡ steps + 1 + 1 - 1 = omega arith in
    record {
      places = k.places;
      seats = refl;
      marked = λ j. none-marked 13 j ∙ sym (ap is_some (none j));
      own = λ j some. absurd (let f : false ≡ true = sym (ap is_some (none j)) ∙ some in cc);
      earlier = λ j member absent. k.own j (reported c (steps + 1) j member full) ∙ ap (λ n. demand_in c.reports n j) e;
      nobody = k.nobody;
    }

-- a round that repeats the one before leaves the demands, and nobody has reported after it
pub latest-again : (c : ClockHistory) (steps : ℕ) (latest : List (Option (List (List ℕ)))) (marks : List Bool) → 1 ≤ steps → is_full (members_of c) c.reports steps ≡ true → ((j : ℕ) → demand_in c.reports (steps + 1) j ≡ None)
    → AllByRecursion (λ j. demand_in (part c steps (members_of c)).reports (steps + 1) j ≡ Some (demands_in c.reports steps j)) (members_of c) → ((j : ℕ) → demand_in (part c steps (members_of c)).reports (steps + 1 + 1) j ≡ None)
    → KeepsLatest c (steps + 1) latest marks → KeepsLatest (part c steps (members_of c)) (steps + 1 + 1) latest marks
latest-again c steps latest marks some full none found after k = record {
  places = k.places;
  seats = k.seats;
  marked = λ j. k.marked j ∙ ap is_some (none j) ∙ sym (ap is_some (after j));
  own = λ j said. absurd (let f : false ≡ true = sym (ap is_some (after j)) ∙ said in cc);
  earlier = λ j member absent.
      let e : steps + 1 - 1 ≡ steps = omega arith in
      let d : steps + 1 ≡ steps + 1 + 1 - 1 = omega arith in
      k.earlier j member (none j) ∙ ap (λ n. demand_in c.reports n j) e ∙ whole j (demand_in c.reports steps j) refl (reported c steps j member full)
      ∙ sym (member-of_all (λ b. demand_in (part c steps (members_of c)).reports (steps + 1) b ≡ Some (demands_in c.reports steps b)) c j member found)
      ∙ ap (λ n. demand_in (part c steps (members_of c)).reports n j) d;
  nobody = k.nobody;
}
  where
    whole : (j : ℕ) (o : Option (List (List ℕ))) → demand_in c.reports steps j ≡ o → is_some o ≡ true → o ≡ Some (demands_in c.reports steps j)
    whole j None e said = absurd (let f : false ≡ true = said in cc)
    whole j (Some d) e said = ap Some (sym (ap (λ o. unwrap_or o []) e))

-- the first member that is not marked is the first that is missing
marks-found : (c : ClockHistory) (round : ℕ) (latest : List (Option (List (List ℕ)))) (marks : List Bool) (ms : List ℕ) → KeepsLatest c round latest marks
    → find (λ j. not (slice_index_or marks j false)) ms ≡ find (λ j. is_none (demand_in c.reports round j)) ms
marks-found c round latest marks [] k = refl
marks-found c round latest marks (j ∷ ms) k =
    let rest = marks-found c round latest marks ms k in
    let same = ap not (k.marked j) ∙ missing (demand_in c.reports round j) in
    λ i. cond (same i) (Some j) (rest i)
  where
    missing : (o : Option (List (List ℕ))) → not (is_some o) ≡ is_none o
    missing None = refl
    missing (Some d) = refl

pub missing-marked : (c : ClockHistory) (steps : ℕ) (latest : List (Option (List (List ℕ)))) (marks : List Bool) (o : Option ℕ) → KeepsLatest c (steps + 1) latest marks → steps ≡ steps_of c
    → o ≡ find (λ j. not (slice_index_or marks j false)) (members_of c) → unwrap_or o 0 ≡ missing_of c
missing-marked c steps latest marks o k are e =
    ap (λ z. unwrap_or z 0) (e ∙ marks-found c (steps + 1) latest marks (members_of c) k)
    ∙ ap (λ n. unwrap_or (find (λ j. is_none (demand_in c.reports (n + 1) j)) (members_of c)) 0) are
