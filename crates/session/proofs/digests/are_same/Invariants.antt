use Rattle.std.proofs.Common.{◌≡◌, take}
use Rattle.std.specs.Prelude.{bytes_eq}
use Rattle.session.proofs.digests.are_same.Given as goal

-- the bytes before the place were compared
abbrev pub invariant-loop-place : goal.invariant-loop-place
invariant-loop-place l = l.same ≡ bytes_eq (take l.place l.left) (take l.place l.right)
