use Rattle.std.proofs.Common.{◌≡◌, ◌∙◌, sym, ap, Some}
use Rattle.std.specs.Prelude.{option_copied}
use Rattle.clock.proofs.Stored.{found-bidder}
use Rattle.clock.proofs.kept_quantities.place_again.Goals as goal

pub returns-in-Some : goal.returns-in-Some
returns-in-Some c = λ p found.
    let e : Some p ≡ Some c.in-Some.place.now = sym found ∙ sym c.place_of.ensures ∙ ap option_copied c.in-Some.is in
    let same : p ≡ c.in-Some.place.now = cc in
    let b = found-bidder c.args.bidder c.args.places.now p found in
    λ i. record { bidder = sym b i; round = c.args.round; start = (sym same i).start; count = (sym same i).count }
