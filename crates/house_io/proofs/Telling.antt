-- What is told over two calls, one after the other.
use Rattle.std.proofs.Common.{Option, Some, None}
use Rattle.house_io.specs.Told.{IfTold}

-- two facts in a row
pub told-trans : {A : Type 0} (a b c : Option A) (P Q R : A → A → Type 0) → IfTold a b P → IfTold b c Q → ((x y z : A) → P x y → Q y z → R x z) → IfTold a c R
told-trans a b None P Q R p q f = tt
told-trans a None (Some z) P Q R p q f = absurd q
told-trans None (Some y) (Some z) P Q R p q f = p
told-trans (Some x) (Some y) (Some z) P Q R p q f = f x y z p q

-- what holds of the same bytes
pub told-same : {A : Type 0} (a : Option A) (P : A → A → Type 0) → ((x : A) → P x x) → IfTold a a P
told-same None P f = tt
told-same (Some x) P f = f x

-- a fact that another follows from
pub told-map : {A : Type 0} (a b : Option A) (P R : A → A → Type 0) → IfTold a b P → ((x y : A) → P x y → R x y) → IfTold a b R
told-map a None P R p f = tt
told-map None (Some y) P R p f = p
told-map (Some x) (Some y) P R p f = f x y p
