-- Rows of bidders, as a loop over them fills their table.
use Rattle.std.proofs.Common.{◌≡◌, ◌<◌, ℕ, ◌+◌, List, [], ◌∷◌, ◌++◌, length, take, map, get_or, Some, sym, ◌∙◌, ap, subst}
use Rattle.std.specs.Prelude.{slice_get}
use Rattle.std.specs.List.{AllZip}
use Rattle.clock.specs.Reports.{ClockHistory}
use Rattle.settlement.specs.Settling.{IsAwardRow}
use Rattle.settlement.specs.declared.outcome.AwardRow.{AwardRow}
use Rattle.std.proofs.lemmas.List.{map-append}
use Rattle.settlement.proofs.Zips.{zip-push, take-next, take-got}

pub awards-more : (all own : ClockHistory) (others : List ClockHistory) (awards : List (List ℕ)) (rows next : List AwardRow) (row : AwardRow) (award : List ℕ) (place : ℕ)
    → place < length others → own ≡ get_or others place own → slice_get awards place ≡ Some award → IsAwardRow all own row → row.award ≡ award → next ≡ rows ++ row ∷ []
    → (AllZip (IsAwardRow all) (take place others) rows × (map (λ (row : AwardRow). row.award) rows ≡ take place awards))
    → (AllZip (IsAwardRow all) (take (place + 1) others) next × (map (λ (row : AwardRow). row.award) next ≡ take (place + 1) awards))
awards-more all own others awards rows next row award place below at got is same pushed before =
    let Z : List AwardRow → Type 0 = λ rs. AllZip (IsAwardRow all) (take (place + 1) others) rs in
    let Y : List ClockHistory → Type 0 = λ cs. AllZip (IsAwardRow all) cs (rows ++ row ∷ []) in (
      subst Z (sym pushed) (subst Y (sym (take-next others place own below at)) (zip-push (IsAwardRow all) (take place others) rows own row before.0 is)),
      ap (map (λ (row : AwardRow). row.award)) pushed ∙ map-append (λ (row : AwardRow). row.award) rows (row ∷ []) ∙ ap (λ xs. xs ++ row.award ∷ []) before.1
          ∙ ap (λ x. take place awards ++ x ∷ []) same ∙ sym (take-got awards place award got),
    )
