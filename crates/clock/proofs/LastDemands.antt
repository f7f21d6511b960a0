-- The members of a clock in its last round: each has reported, and what they demand is a list in their order.
use Rattle.std.proofs.Common.{◌≡◌, ◌≢◌, ◌<◌, ℕ, ◌+◌, ◌-◌, true, not, nat_eq, List, [], ◌∷◌, ◌++◌, map, is_some, sym, ◌∙◌, ap, subst, arith}
use Rattle.std.proofs.lemmas.List.{append_assoc, append-nil}
use Rattle.std.specs.Prelude.{filter}
use Rattle.std.specs.List.{AllByRecursion, range_with_len}
use Rattle.lot_base.specs.Demands.{IsDemand}
use Rattle.lot_base.specs.declared.phases.Phase.TheVariants.{Ended}
use Rattle.clock.specs.Reports.{ClockHistory, members_of, demand_in, is_full}
use Rattle.clock.specs.Standing.{phase_of, steps_of, is_full_after, last_round, last_demands}
use Rattle.clock.proofs.Members.{members_from, members-keep, members-skip}
use Rattle.lot_base.proofs.Within.{both}
use Rattle.clock.proofs.Append.{all-push}
use Rattle.clock.proofs.Truthful.{ended-by}

-- a clock that has ended has a full last round
pub full-ended : (c : ClockHistory) → phase_of c ≡ Ended → is_full (members_of c) c.reports (last_round c) ≡ true
full-ended c e = (ended-by (is_full_after c (steps_of c)) _ _ e).0

-- What a loop over the bidders has copied after so many of them, and what it still knows of the members from there on.
pub record IsCopied (c : ClockHistory) (goods : List ℕ) (step bidders : ℕ) (demands : List (List (List ℕ))) : Type 0 where
  pub whole : demands ++ map (last_demands c) (members_from step bidders c.number) ≡ map (last_demands c) (members_of c)
  pub reported : is_full (members_from step bidders c.number) c.reports (last_round c) ≡ true
  pub fit : AllByRecursion (λ d. IsDemand goods d) demands

pub none-from : (n clock : ℕ) → members_from n n clock ≡ []
none-from n clock = let e : n - n ≡ 0 = omega arith in ap (λ k. filter (λ j. not (nat_eq j clock)) (range_with_len (1 + n) k)) e

pub copied-start : (c : ClockHistory) (goods : List ℕ) (bidders : ℕ) → bidders ≡ c.terms.bidders → phase_of c ≡ Ended → IsCopied c goods 0 bidders []
copied-start c goods bidders same ended =
    let e : members_from 0 bidders c.number ≡ members_of c = let n : bidders - 0 ≡ c.terms.bidders = omega arith in ap (λ n. filter (λ j. not (nat_eq j c.number)) (range_with_len 1 n)) n in
    record {
      whole = ap (map (last_demands c)) e;
      reported = ap (λ js. is_full js c.reports (last_round c)) e ∙ full-ended c ended;
      fit = tt;
    }

pub copied-reported : (c : ClockHistory) (goods : List ℕ) (step bidders : ℕ) (demands : List (List (List ℕ))) → IsCopied c goods step bidders demands → step < bidders → step + 1 ≢ c.number
    → (is_some (demand_in c.reports (last_round c) (step + 1)) ≡ true) × (is_full (members_from (step + 1) bidders c.number) c.reports (last_round c) ≡ true)
copied-reported c goods step bidders demands h below other =
    both _ _ (ap (λ js. is_full js c.reports (last_round c)) (sym (members-keep step bidders c.number below other)) ∙ h.reported)

pub copied-keep : (c : ClockHistory) (goods : List ℕ) (step bidders : ℕ) (demands next : List (List (List ℕ))) (d : List (List ℕ)) → IsCopied c goods step bidders demands → step < bidders → step + 1 ≢ c.number
    → d ≡ last_demands c (step + 1) → IsDemand goods d → next ≡ demands ++ d ∷ [] → IsCopied c goods (step + 1) bidders next
copied-keep c goods step bidders demands next d h below other e fits pushed =
    let rest = map (last_demands c) (members_from (step + 1) bidders c.number) in
    record {
      whole = ap (λ ds. ds ++ rest) pushed ∙ append_assoc demands (d ∷ []) rest ∙ ap (λ x. demands ++ (x ∷ rest)) e ∙ ap (λ js. demands ++ map (last_demands c) js) (sym (members-keep step bidders c.number below other)) ∙ h.whole;
      reported = (copied-reported c goods step bidders demands h below other).1;
      fit = let P : List (List (List ℕ)) → Type 0 = AllByRecursion (λ d. IsDemand goods d) in subst P (sym pushed) (all-push (λ d. IsDemand goods d) demands d h.fit fits);
    }

pub copied-skip : (c : ClockHistory) (goods : List ℕ) (step bidders : ℕ) (demands : List (List (List ℕ))) → IsCopied c goods step bidders demands → step < bidders → step + 1 ≡ c.number → IsCopied c goods (step + 1) bidders demands
copied-skip c goods step bidders demands h below same =
    let e = members-skip step bidders c.number below same in
    record {
      whole = ap (λ js. demands ++ map (last_demands c) js) (sym e) ∙ h.whole;
      reported = ap (λ js. is_full js c.reports (last_round c)) (sym e) ∙ h.reported;
      fit = h.fit;
    }

pub copied-end : (c : ClockHistory) (goods : List ℕ) (bidders : ℕ) (demands : List (List (List ℕ))) → IsCopied c goods bidders bidders demands → demands ≡ map (last_demands c) (members_of c)
copied-end c goods bidders demands h =
    sym (append-nil demands) ∙ ap (λ js. demands ++ map (last_demands c) js) (sym (none-from bidders c.number)) ∙ h.whole
