use Rattle.std.proofs.Common.{◌≡◌, ◌<◌, ◌∙◌, ℕ, List, length, Option, Some, None, sym, ap, subst}
use Rattle.std.specs.Prelude.{IfSome, option_copied, slice_index_or}
use Rattle.two_way.specs.declared.past.Kept.{Kept}
use Rattle.two_way.specs.Past.{nothing_kept}
use Rattle.two_way.proofs.Pasts.{latest-there}
use Rattle.two_way.proofs.past.kept_at.Goals as goal

pub number_if_same-requires : goal.number_if_same-requires
number_if_same-requires c =
    latest-there c.args.demands.now c.args.bidder c.args.places.now c.in-Some.place.now c.requires (sym c.latest_place.ensures ∙ ap option_copied c.in-Some.is)

kept : (demands : List Kept) (demand : List (List ℕ)) (number : ℕ) (o : Option ℕ) → number < length demands → IfSome o (λ place. (place ≡ number) × ((slice_index_or demands number nothing_kept).demand ≡ demand))
    → IfSome o (λ place. (place < length demands) × ((slice_index_or demands place nothing_kept).demand ≡ demand))
kept demands demand number None below h = tt
kept demands demand number (Some place) below h =
    let P : ℕ → Type 0 = λ n. (n < length demands) × ((slice_index_or demands n nothing_kept).demand ≡ demand) in
    subst P (sym h.0) (below, h.1)

pub returns-in-Some : goal.returns-in-Some
returns-in-Some c =
    kept c.args.demands.now c.args.demand.now c.in-Some.place.now.number c.number_if_same.result
    (latest-there c.args.demands.now c.args.bidder c.args.places.now c.in-Some.place.now c.requires (sym c.latest_place.ensures ∙ ap option_copied c.in-Some.is)) c.number_if_same.ensures
