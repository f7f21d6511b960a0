-- The two passes of a house stay all of its passes.
use Rattle.std.proofs.Common.{◌≡◌, ◌<◌, ℕ, List, [], ◌∷◌, length, get_or, set, ◌∙◌}
use Rattle.std.specs.List.{AllByRecursion}
use Rattle.std.proofs.Math.ListN.{length-set}
use Rattle.lot_base.specs.declared.auction_terms.Terms.{Terms}
use Rattle.house_io.specs.Disks.{DiskShown}
use Rattle.clock_family.specs.Turns.{AreOf}
use Rattle.clock_family.specs.Houses.{HouseOf, HousePassOf, IsNewPass, IsOpened, all_still}
use Rattle.clock_family.proofs.Rows.{all-set}
use Rattle.clock_family.proofs.Still.{set_still, all_still_of}
use Rattle.clock_family_tests.specs.Ready.{IsReady}

module _ {D : Type 0} where
  pub ready-set : (terms : Terms) (house : HouseOf D) (ps : List HousePassOf) (k : ℕ) (old new : HousePassOf) → IsReady terms house ps → old ≡ get_or ps k old → k < length ps
      → AreOf house.terms house.digest house.desks new.passes → all_still new ≡ all_still old → IsReady terms house (set ps k new)
  ready-set terms house ps k old new ready here below of still = record {
    terms_are = ready.terms_are;
    count = length-set ps k new ∙ ready.count;
    each = all-set (λ (p : HousePassOf). AreOf house.terms house.digest house.desks p.passes) ps k new ready.each of;
    all = all_still_of house.desks ps (set ps k new) (set_still ps k old new here below still) ready.all;
  }

  each-new : (house : HouseOf D) (ps : List HousePassOf) → AllByRecursion (IsNewPass house) ps → AllByRecursion (λ (p : HousePassOf). AreOf house.terms house.digest house.desks p.passes) ps
  each-new house [] all = tt
  each-new house (p ∷ ps) all = (all.0.of_house, each-new house ps all.1)

  pub ready-opened : (shown : D → DiskShown) (terms : Terms) (digest : List ℕ) (disks : List D) (house : HouseOf D) (ps : List HousePassOf)
      → IsOpened shown terms digest 2 disks house ps → IsReady terms house ps
  ready-opened shown terms digest disks house ps opened = record {
    terms_are = opened.terms_are;
    count = opened.count_is;
    each = each-new house ps opened.new;
    all = opened.all;
  }
