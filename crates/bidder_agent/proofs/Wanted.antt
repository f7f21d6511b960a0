-- What a demand set is as a list of quantities, and that it can be reported.
use Rattle.std.proofs.Common.{◌≡◌, ◌≤◌, ◌∙◌, ℕ, suc, ◌*◌, List, [], ◌∷◌, length, ap, sym, arith}
use Rattle.std.proofs.Math.Nat.{mul-le-mul}
use Rattle.std.specs.List.{AllByRecursion, concat}
use Rattle.lot_base.specs.Goods.{AtMost, IsRange}
use Rattle.lot_base.specs.Demands.{IsDemand}
use Rattle.demand_set.specs.Held.{IsSomeDemand}
use Rattle.demand_set.proofs.Joined.{length-concat}
use Rattle.report_wire.specs.Frames.{IsMessage}
use Rattle.report_wire.specs.declared.kinds.TheConstants.{REPORT}
use Rattle.report_wire.specs.Messages.{to_house}
use Rattle.report_wire.specs.Entries.{IsWhole}
use Rattle.report_wire.specs.Payloads.{report_payload}
use Rattle.report_wire.proofs.Spelling.{length-pairs, whole_is_formed}

long : (x supply : List ℕ) → AtMost x supply → length x ≡ length supply
long [] [] within = omega arith
long [] (s ∷ supply) within = absurd within
long (q ∷ x) [] within = absurd within
long (q ∷ x) (s ∷ supply) within = ap (λ n. suc n) (long x supply within.1)

all-long : (supply : List ℕ) (bundles : List (List ℕ)) → AllByRecursion (λ x. AtMost x supply) bundles → AllByRecursion (λ x. length x ≡ length supply) bundles
all-long supply [] within = tt
all-long supply (x ∷ bundles) within = (long x supply within.0, all-long supply bundles within.1)

-- a demand of so many goods can be reported
pub reported : (supply : List ℕ) (goods : ℕ) (bundles : List (List ℕ)) (quantities : List ℕ) → goods ≡ length supply → IsRange 1 6 goods → quantities ≡ concat bundles → IsDemand supply bundles → IsSomeDemand bundles
    → (first round : ℕ) → IsMessage to_house REPORT (report_payload first round goods quantities)
reported supply goods bundles quantities goods-are range same is some first round =
    let size : length quantities ≡ length bundles * goods = ap length same ∙ length-concat (length supply) bundles (all-long supply bundles is.in_box) ∙ ap (λ n. length bundles * n) (sym goods-are) in
    let few : length bundles * goods ≤ 2048 * 6 = mul-le-mul some.few range.at_most in
    let whole : IsWhole goods quantities = record { some_good = range.at_least; few_goods = range.at_most; count = length bundles; whole = size } in
    let n = length-pairs quantities in
    record {
      formed = whole_is_formed first round goods quantities whole (omega (arith, size, few));
      short = omega (arith, n, size, few);
    }
