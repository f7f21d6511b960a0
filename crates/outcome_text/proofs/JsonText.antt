-- An outcome's value has no float.
use Rattle.std.proofs.Common.{◌≡◌, ◌||◌, ℕ, suc, ℤ, pos, negsuc, false, List, [], ◌∷◌, length, Option, Some, None, codes, refl}
use Rattle.clock.specs.Reports.{members}
use Rattle.serde_json.specs.Written.{has_float, items_have_float, members_have_float}
use Rattle.serde_json.specs.Data.{array, Members, no_members, member}
use Rattle.settlement.specs.declared.outcome.AwardRow.{AwardRow}
use Rattle.settlement.specs.declared.outcome.ClockRow.{ClockRow}
use Rattle.settlement.specs.declared.outcome.Outcome.{Outcome}
use Rattle.outcome_text.specs.Json.{amount, counts, with_opening, bidder_object, bidder_objects, choice_objects, clock_object, clock_objects, outcome_object}

no-amount : (z : ℤ) → has_float (amount z) ≡ false
no-amount (pos n) = refl
no-amount (negsuc n) = refl

no-counts : (ns : List ℕ) → items_have_float (counts ns) ≡ false
no-counts [] = refl
no-counts (n ∷ ns) = no-counts ns

no-bidder : (bidder : ℕ) (row : AwardRow) → has_float (bidder_object bidder row) ≡ false
no-bidder bidder row = λ i. no-counts row.award i || (no-amount row.credit i || (no-amount row.debit i || (no-amount row.pays i || false)))

no-bidders : (bidder : ℕ) (rows : List AwardRow) → items_have_float (bidder_objects bidder rows) ≡ false
no-bidders bidder [] = refl
no-bidders bidder (row ∷ rows) = λ i. no-bidder bidder row i || no-bidders (suc bidder) rows i

no-choices : (js : List ℕ) (choices : List (List ℕ)) → items_have_float (choice_objects js choices) ≡ false
no-choices [] choices = refl
no-choices (j ∷ js) [] = refl
no-choices (j ∷ js) (bundle ∷ choices) = λ i. (no-counts bundle i || false) || no-choices js choices i

no-clock : (bidders clock : ℕ) (row : ClockRow) → has_float (clock_object bidders clock row) ≡ false
no-clock bidders clock row = λ i. no-choices (members bidders clock) row.choices i || (no-counts row.prices i || false)

no-clocks : (bidders clock : ℕ) (rows : List ClockRow) → items_have_float (clock_objects bidders clock rows) ≡ false
no-clocks bidders clock [] = refl
no-clocks bidders clock (row ∷ rows) = λ i. no-clock bidders clock row i || no-clocks bidders (suc clock) rows i

no-opening : (opening : Option (List ℕ)) (rest : Members) → members_have_float rest ≡ false → members_have_float (with_opening opening rest) ≡ false
no-opening None rest none = none
no-opening (Some opening) rest none = λ i. no-counts opening i || none i

pub no-float : (o : Outcome) → has_float (outcome_object o) ≡ false
unfolding outcome_object
no-float o = λ i. no-bidders 1 o.rows i || (no-clocks (length o.rows) 0 o.clocks i || no-opening o.opening (member (codes "prices") (array (counts o.prices)) no_members) (λ j. no-counts o.prices j || false) i)
