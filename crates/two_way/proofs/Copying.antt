-- What the members of a clock demand in a full round, as a loop over the bidders copies it.
use Rattle.std.proofs.Common.{◌≡◌, ◌≢◌, ◌<◌, ℕ, ◌+◌, ◌-◌, true, not, nat_eq, List, [], ◌∷◌, ◌++◌, map, is_some, sym, ◌∙◌, ap, subst, arith}
use Rattle.std.proofs.lemmas.List.{append_assoc, append-nil}
use Rattle.std.specs.Prelude.{filter}
use Rattle.std.specs.List.{AllByRecursion, range_with_len}
use Rattle.lot_base.specs.Demands.{IsDemand}
use Rattle.lot_base.specs.declared.phases.Phase.TheVariants.{Ended}
use Rattle.lot_base.proofs.Within.{both}
use Rattle.clock.specs.Reports.{demand_in, is_full}
use Rattle.clock.proofs.Members.{members_from, members-keep, members-skip}
use Rattle.clock.proofs.Append.{all-push}
use Rattle.clock.proofs.LastDemands.{none-from}
use Rattle.two_way.specs.Histories.{TwoWayHistory, members_in}
use Rattle.two_way.specs.Standing.{phase_of, last_round, last_demands}
use Rattle.two_way.proofs.Truthful.{full-ended}

-- what was copied after so many bidders, and what is known of the members from there on
pub record IsCopied (h : TwoWayHistory) (goods : List ℕ) (step bidders : ℕ) (demands : List (List (List ℕ))) : Type 0 where
  pub whole : demands ++ map (last_demands h) (members_from step bidders h.number) ≡ map (last_demands h) (members_in h)
  pub reported : is_full (members_from step bidders h.number) h.reports (last_round h) ≡ true
  pub fit : AllByRecursion (λ d. IsDemand goods d) demands

pub copied-start : (h : TwoWayHistory) (goods : List ℕ) (bidders : ℕ) → bidders ≡ h.terms.bidders → phase_of h ≡ Ended → IsCopied h goods 0 bidders []
copied-start h goods bidders same ended =
    let e : members_from 0 bidders h.number ≡ members_in h = let n : bidders - 0 ≡ h.terms.bidders = omega arith in ap (λ n. filter (λ j. not (nat_eq j h.number)) (range_with_len 1 n)) n in
    record {
      whole = ap (map (last_demands h)) e;
      reported = ap (λ js. is_full js h.reports (last_round h)) e ∙ full-ended h ended;
      fit = tt;
    }

pub copied-reported : (h : TwoWayHistory) (goods : List ℕ) (step bidders : ℕ) (demands : List (List (List ℕ))) → IsCopied h goods step bidders demands → step < bidders → step + 1 ≢ h.number
    → (is_some (demand_in h.reports (last_round h) (step + 1)) ≡ true) × (is_full (members_from (step + 1) bidders h.number) h.reports (last_round h) ≡ true)
copied-reported h goods step bidders demands c below other =
    both _ _ (ap (λ js. is_full js h.reports (last_round h)) (sym (members-keep step bidders h.number below other)) ∙ c.reported)

pub copied-keep : (h : TwoWayHistory) (goods : List ℕ) (step bidders : ℕ) (demands next : List (List (List ℕ))) (d : List (List ℕ)) → IsCopied h goods step bidders demands → step < bidders → step + 1 ≢ h.number
    → d ≡ last_demands h (step + 1) → IsDemand goods d → next ≡ demands ++ d ∷ [] → IsCopied h goods (step + 1) bidders next
copied-keep h goods step bidders demands next d c below other e fits pushed =
    let rest = map (last_demands h) (members_from (step + 1) bidders h.number) in
    record {
      whole = ap (λ ds. ds ++ rest) pushed ∙ append_assoc demands (d ∷ []) rest ∙ ap (λ x. demands ++ (x ∷ rest)) e ∙ ap (λ js. demands ++ map (last_demands h) js) (sym (members-keep step bidders h.number below other)) ∙ c.whole;
      reported = (copied-reported h goods step bidders demands c below other).1;
      fit = let P : List (List (List ℕ)) → Type 0 = AllByRecursion (λ d. IsDemand goods d) in subst P (sym pushed) (all-push (λ d. IsDemand goods d) demands d c.fit fits);
    }

pub copied-skip : (h : TwoWayHistory) (goods : List ℕ) (step bidders : ℕ) (demands : List (List (List ℕ))) → IsCopied h goods step bidders demands → step < bidders → step + 1 ≡ h.number → IsCopied h goods (step + 1) bidders demands
copied-skip h goods step bidders demands c below same =
    let e = members-skip step bidders h.number below same in
    record {
      whole = ap (λ js. demands ++ map (last_demands h) js) (sym e) ∙ c.whole;
      reported = ap (λ js. is_full js h.reports (last_round h)) (sym e) ∙ c.reported;
      fit = c.fit;
    }

pub copied-end : (h : TwoWayHistory) (goods : List ℕ) (bidders : ℕ) (demands : List (List (List ℕ))) → IsCopied h goods bidders bidders demands → demands ≡ map (last_demands h) (members_in h)
copied-end h goods bidders demands c =
    sym (append-nil demands) ∙ ap (λ js. demands ++ map (last_demands h) js) (sym (none-from bidders h.number)) ∙ c.whole
