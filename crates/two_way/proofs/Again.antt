-- What a bidder demanded in the round before, and where the reports of that round begin.
use Rattle.std.proofs.Common.{◌≡◌, ◌≢◌, ◌≤◌, ◌<◌, ◌⊎◌, inl, inr, ℕ, zero, suc, ◌+◌, true, false, ◌&&◌, nat_eq, cond, List, [], ◌∷◌, length, take, drop, Option, Some, None, is_some, refl, sym, ◌∙◌, ap, arith, subst}
use Rattle.std.specs.Prelude.{find, option_map, unwrap_or, IsSome}
use Rattle.std.specs.List.{AllByRecursion}
use Rattle.std.proofs.lemmas.Bool.Decides.{nat_tests}
use Rattle.lot_base.specs.Demands.{IsDemand}
use Rattle.demand_set.specs.declared.reports.Report.{Report}
use Rattle.clock.specs.declared.judging.Judgement.TheVariants.{Take}
use Rattle.clock.specs.Reports.{is_named, demand_in, demands_in, is_full}
use Rattle.two_way.specs.Histories.{TwoWayHistory, members_in, told}
use Rattle.two_way.specs.Standing.{steps_of, last_round, judgement_of, again_by}
use Rattle.two_way.specs.Turns.{IsTurned}
use Rattle.two_way.specs.Kept.{IsKept, KeepsPast}
use Rattle.two_way.specs.Past.{PastOf, with_report}
use Rattle.two_way.specs.declared.next_step.Standing.{Standing}
use Rattle.clock.proofs.Excesses.{found-fits}
use Rattle.clock.proofs.After.{longer}
use Rattle.trial.proofs.Finding.{all-more}
use Rattle.two_way.proofs.Keeping.{GoesOn, Stays, advanced, take-longer, with-report, same-demands, same-full, kept-applied}

-- before a place there is no report of the round
found-last : (last steps j : ℕ) (reports : List Report) → AllByRecursion (λ (r : Report). r.round < steps) (take last reports)
    → find (is_named steps j) (drop last reports) ≡ find (is_named steps j) reports
found-last zero steps j reports earlier = refl
found-last (suc last) steps j [] earlier = refl
found-last (suc last) steps j (x ∷ reports) earlier =
    let other : nat_eq x.round steps ≡ false = (let p = earlier.0 in grind (arith, nat_tests)) in
    found-last last steps j reports earlier.1 ∙ sym (ap (λ b. cond (b && nat_eq x.bidder j) (Some x) (find (is_named steps j) reports)) other)

-- so what a bidder demanded in it is found from there on
pub said-last : (h now : TwoWayHistory) (goods : List ℕ) (last begin : ℕ) (s : Standing) (j : ℕ) → IsKept h begin s → KeepsPast h goods last begin s → h ≡ now
    → demand_in (drop last h.reports) s.steps j ≡ demand_in now.reports (steps_of now) j
said-last h now goods last begin s j k p same =
    ap (option_map (λ (r : Report). r.demand)) (found-last last s.steps j h.reports p.earlier)
    ∙ ap (λ n. demand_in h.reports n j) k.steps_are
    ∙ ap (λ (g : TwoWayHistory). demand_in g.reports (steps_of g) j) same

pub some-last : (h now : TwoWayHistory) (goods : List ℕ) (last begin : ℕ) (s : Standing) (j : ℕ) → IsKept h begin s → KeepsPast h goods last begin s → h ≡ now
    → IsSome (demand_in now.reports (steps_of now) j) → is_some (demand_in (drop last h.reports) s.steps j) ≡ true
some-last h now goods last begin s j k p same some = ap is_some (said-last h now goods last begin s j k p same) ∙ some

-- and it is the report that says it again
pub again-is : (h now : TwoWayHistory) (goods : List ℕ) (last begin : ℕ) (s : Standing) (j : ℕ) → IsKept h begin s → KeepsPast h goods last begin s → h ≡ now
    → record { bidder = j; round = s.steps + 1; demand = demands_in (drop last h.reports) s.steps j } ≡ again_by now j
again-is h now goods last begin s j k p same =
    let round : s.steps + 1 ≡ last_round now = ap (λ n. n + 1) (k.steps_are ∙ ap steps_of same) in
    let says = said-last h now goods last begin s j k p same in
    (λ i. record { bidder = j; round = round i; demand = unwrap_or (says i) [] })

pub again-fits : (now : TwoWayHistory) (j : ℕ) → AllByRecursion (λ (r : Report). IsDemand now.terms.goods r.demand) now.reports → IsSome (demand_in now.reports (steps_of now) j)
    → IsDemand now.terms.goods (again_by now j).demand
again-fits now j fit some = by (demand_in now.reports (steps_of now) j) refl some
  where
    by : (o : Option (List (List ℕ))) → demand_in now.reports (steps_of now) j ≡ o → IsSome o → IsDemand now.terms.goods (unwrap_or (demand_in now.reports (steps_of now) j) [])
    by None e some = absurd (let f : false ≡ true = some in cc)
    by (Some d) e some =
        let D : List (List ℕ) → Type 0 = IsDemand now.terms.goods in
        subst D (ap (λ o. unwrap_or o []) (sym e)) (found-fits now.terms.goods now.reports (steps_of now) j d fit e)

-- the places follow the rounds
pub past-applied : (h : TwoWayHistory) (r : Report) (goods : List ℕ) (last begin last' begin' : ℕ) (s t : Standing) → IsKept h begin s → KeepsPast h goods last begin s → judgement_of h r ≡ Take → IsDemand h.terms.goods r.demand
    → (is_full (members_in h) (drop begin (told h r).reports) (s.steps + 1) ≡ false → t ≡ s)
    → (is_full (members_in h) (drop begin (told h r).reports) (s.steps + 1) ≡ true → IsTurned h.terms (demands_in (drop begin (told h r).reports) (s.steps + 1)) (members_in h) s t)
    → (t.steps ≡ s.steps → (begin' ≡ begin) × (last' ≡ last)) → (t.steps ≢ s.steps → (begin' ≡ length (told h r).reports) × (last' ≡ begin)) → KeepsPast (told h r) goods last' begin' t
past-applied h r goods last begin last' begin' s t k p taken fits open_ full stays goes =
    let w = with-report h r begin s k taken fits in
    let reports = (told h r).reports in
    let same = same-full begin s.steps reports (drop begin reports) (members_in h) w.past refl in
    let P : (ℕ → List (List ℕ)) → Type 0 = λ d. IsTurned h.terms d (members_in h) s t in
    by (advanced (told h r) s t w.come w.running (λ off. open_ (same ∙ off)) (λ on. subst P (same-demands begin s.steps reports (drop begin reports) w.past refl) (full (same ∙ on))))
  where
    by : GoesOn (told h r) s t ⊎ Stays (told h r) s t → KeepsPast (told h r) goods last' begin' t
    by (inl on) =
        let g = goes (λ e. absurd (let f = on.steps in omega (arith, e, f))) in
        let up = k.begins in
        let n = on.steps in
        let A : List Report → Type 0 = AllByRecursion (λ (x : Report). x.round < t.steps) in
        let E : ℕ → Type 0 = λ m. A (take m (told h r).reports) in
        record {
          goods_are = p.goods_are;
          before = (let l = longer h.reports r in omega (arith, g.0, g.1, up, l));
          earlier = subst E (sym g.1) (subst A (sym (take-longer begin h.reports r up)) (all-more (λ (x : Report). x.round ≤ s.steps) (λ (x : Report). x.round < t.steps) (take begin h.reports) (λ x low. omega (arith, low, n)) k.past));
        }
    by (inr here) =
        let g = stays here.steps in
        let n = here.steps in
        let b = p.before in
        let up = k.begins in
        let A : List Report → Type 0 = AllByRecursion (λ (x : Report). x.round < t.steps) in
        let E : ℕ → Type 0 = λ m. A (take m (told h r).reports) in
        record {
          goods_are = p.goods_are;
          before = omega (arith, g.0, g.1, b);
          earlier = subst E (sym g.1) (subst A (sym (take-longer last h.reports r (omega (arith, b, up)))) (all-more (λ (x : Report). x.round < s.steps) (λ (x : Report). x.round < t.steps) (take last h.reports) (λ x low. omega (arith, low, n)) p.earlier));
        }

-- what the type keeps with a report more, the past being so
pub kept-both : (h : TwoWayHistory) (r : Report) (goods : List ℕ) (past : PastOf) (last begin last' begin' : ℕ) (s t : Standing) → IsKept h begin s → KeepsPast h goods last begin s → judgement_of h r ≡ Take → IsDemand h.terms.goods r.demand
    → past ≡ with_report (record { goods = goods; reports = h.reports }) r
    → (is_full (members_in h) (drop begin past.reports) (s.steps + 1) ≡ false → t ≡ s)
    → (is_full (members_in h) (drop begin past.reports) (s.steps + 1) ≡ true → IsTurned h.terms (demands_in (drop begin past.reports) (s.steps + 1)) (members_in h) s t)
    → (t.steps ≡ s.steps → (begin' ≡ begin) × (last' ≡ last)) → (t.steps ≢ s.steps → (begin' ≡ length past.reports) × (last' ≡ begin))
    → IsKept (record h { reports = past.reports }) begin' t × KeepsPast (record h { reports = past.reports }) past.goods last' begin' t
kept-both h r goods past last begin last' begin' s t k p taken fits is open_ full stays goes =
    let G : PastOf → Type 0 = λ q. IsKept (record h { reports = q.reports }) begin' t × KeepsPast (record h { reports = q.reports }) q.goods last' begin' t in
    let O : PastOf → Type 0 = λ q. is_full (members_in h) (drop begin q.reports) (s.steps + 1) ≡ false → t ≡ s in
    let F : PastOf → Type 0 = λ q. is_full (members_in h) (drop begin q.reports) (s.steps + 1) ≡ true → IsTurned h.terms (demands_in (drop begin q.reports) (s.steps + 1)) (members_in h) s t in
    let L : PastOf → Type 0 = λ q. t.steps ≢ s.steps → (begin' ≡ length q.reports) × (last' ≡ begin) in
    let o = subst O is open_ in
    let f = subst F is full in
    let l = subst L is goes in
    subst G (sym is) (
      kept-applied h r begin begin' s t (drop begin (told h r).reports) k taken fits refl o f (λ e. (stays e).0) (λ e. (l e).0),
      past-applied h r goods last begin last' begin' s t k p taken fits o f stays l,
    )
