-- What an answer without a fault shows of the steps that led to it.
use Rattle.std.proofs.Common.{◌≡◌, ℕ, ◌+◌, suc, List, [], ◌∷◌, length, Ok, Err, Result, Option, Some, None, refl, sym, ap, ◌∙◌, subst}
use Rattle.std.specs.List.{AllByRecursion}
use Rattle.std.specs.Option.{ok_or}
use Rattle.toml_tree.specs.Steps.{◌>>=◌, said_by, each_from}

-- the first step had none, and the rest had none at its value
pub bind_ok : {A B F : Type 0} (r : Result A F) (f : A → Result B F) (y : B) → (r >>= f) ≡ Ok y → (x : A) × (r ≡ Ok x) × (f x ≡ Ok y)
bind_ok (Ok x) f y h = (x, refl, h)
bind_ok (Err refusal) f y h = cc h

pub some_from_ok_or : {A F : Type 0} (o : Option A) (refusal : F) (x : A) → ok_or o refusal ≡ Ok x → o ≡ Some x
some_from_ok_or (Some y) refusal x h = cc h
some_from_ok_or None refusal x h = cc h

pub same_Ok : {A F : Type 0} (x y : A) → ◌≡◌ {A = Result A F} (Ok x) (Ok y) → x ≡ y
same_Ok x y h = cc h

-- there is none either, where faults are said in another way
pub ok_from_said : {A E F : Type 0} (f : E → F) (r : Result A E) (x : A) → said_by f r ≡ Ok x → r ≡ Ok x
ok_from_said f (Ok y) x h = cc h
ok_from_said f (Err refusal) x h = cc h

-- each element is read
pub each-length : {A B F : Type 0} (f : ℕ → A → Result B F) (k : ℕ) (xs : List A) (ys : List B) → each_from f k xs ≡ Ok ys → length ys ≡ length xs
each-length f k [] ys h = ap length (sym (same_Ok [] ys h))
each-length f k (x ∷ xs) ys h =
    let first = bind_ok (f k x) _ ys h in
    let later = bind_ok (each_from f (k + 1) xs) _ ys first.2 in
    ap length (sym (same_Ok (first.0 ∷ later.0) ys later.2)) ∙ ap suc (each-length f (k + 1) xs later.0 later.1)

pub each-all : {A B F : Type 0} (f : ℕ → A → Result B F) (P : B → Type 0) → ((k : ℕ) (x : A) (y : B) → f k x ≡ Ok y → P y) → (k : ℕ) (xs : List A) (ys : List B) → each_from f k xs ≡ Ok ys → AllByRecursion P ys
each-all {A} {B} f P holds k [] ys h = let Q : List B → Type 0 = λ zs. AllByRecursion P zs in subst Q (same_Ok [] ys h) tt
each-all {A} {B} f P holds k (x ∷ xs) ys h =
    let first = bind_ok (f k x) _ ys h in
    let later = bind_ok (each_from f (k + 1) xs) _ ys first.2 in
    let Q : List B → Type 0 = λ zs. AllByRecursion P zs in
    subst Q (same_Ok (first.0 ∷ later.0) ys later.2) (holds k x first.0 first.1, each-all f P holds (k + 1) xs later.0 later.1)
