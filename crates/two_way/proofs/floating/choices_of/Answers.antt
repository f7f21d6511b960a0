use Rattle.std.proofs.Common.{◌≡◌, ◌∙◌, ◌++◌, ◌∷◌, [], ℕ, List, Some, take, sym, subst}
use Rattle.std.specs.List.{AllZip}
use Rattle.settlement.proofs.Zips.{zip-push, take-next}
use Rattle.trial.specs.Bidding.{bidders_of}
use Rattle.trial.proofs.Bidders.{known}
use Rattle.lot_base.specs.declared.phases.Phase.TheVariants.{Ended}
use Rattle.two_way.specs.Histories.{TwoWayHistory}
use Rattle.two_way.specs.Standing.{phase_of}
use Rattle.two_way.specs.Floated.{choice_of}
use Rattle.two_way.proofs.Bidders.{all-at, always-chosen}
use Rattle.two_way.proofs.floating.choices_of.Goals as goal

pub choice_of-requires-clause-terms : goal.choice_of-requires-clause-terms
choice_of-requires-clause-terms c =
    all-at (λ (k : TwoWayHistory). k.terms ≡ c.args.terms.now) c.args.clocks.now c.index-clocks-place.result c.loop-place.place c.requires.clocks.ended.terms_are c.loop-place-test.true c.index-clocks-place.is

pub choice_of-requires-clause-ended : goal.choice_of-requires-clause-ended
choice_of-requires-clause-ended c =
    all-at (λ (k : TwoWayHistory). phase_of k ≡ Ended) c.args.clocks.now c.index-clocks-place.result c.loop-place.place c.requires.clocks.ended.ended c.loop-place-test.true c.index-clocks-place.is

pub unreachable-requires : goal.unreachable-requires
unreachable-requires c =
    let terms = c.args.terms.now in
    let u = bidders_of terms.goods c.args.valuations.now in
    always-chosen u terms c.args.start.now c.args.clocks.now c.index-clocks-place.result c.loop-place.place (known terms c.args.valuations.now c.requires.valuations c.requires.substitutes) c.requires.start c.requires.clocks c.loop-place-test.true c.index-clocks-place.is
    (c.in_ok-choice.ensures ∙ c.in-None.is)

pub loop-place-preserved : goal.loop-place-preserved
loop-place-preserved c =
    let R : TwoWayHistory → List (List ℕ) → Type 0 = λ h choice. choice_of h ≡ Some choice in
    let clocks = c.args.clocks.now in
    let place = c.loop-place.place in
    let h = c.index-clocks-place.result in
    let Y : List TwoWayHistory → Type 0 = λ hs. AllZip R hs c.push.new.self.items in
    let Z : List (List (List ℕ)) → Type 0 = λ xs. AllZip R (take place clocks ++ h ∷ []) xs in
    subst Y (sym (take-next clocks place h c.loop-place-test.true c.index-clocks-place.is))
    (subst Z (sym c.in_ok-push-in-Some.ensures.items) (zip-push R (take place clocks) c.loop-place.choices.items h c.in-Some.choice c.loop-place.invariant (c.in_ok-choice.ensures ∙ c.in-Some.is)))
