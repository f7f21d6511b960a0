use Rattle.std.proofs.Common.{◌≡◌, take, Some}
use Rattle.std.specs.List.{AllZip}
use Rattle.two_way.specs.Floated.{choice_of}
use Rattle.two_way.proofs.floating.choices_of.Given as goal

abbrev pub invariant-loop-place : goal.invariant-loop-place
invariant-loop-place l = AllZip (λ h choice. choice_of h ≡ Some choice) (take l.place l.clocks) l.choices.items
