-- The front of a list, and what is after it.
use Rattle.std.proofs.Common.{◌≡◌, ◌<◌, ◌≤◌, ℕ, ◌+◌, ◌-◌, min, List, ◌++◌, length, take, drop, sym, ◌∙◌, ap, arith, length-append, length-drop}
use Rattle.std.proofs.lemmas.List.{take-append-drop, take-append-le, length-take-le}
use Rattle.std.proofs.Math.Seq.{take-append_seam, take-append-add, drop-append_seam, drop-drop, take-length}
use Rattle.house_io.specs.Sources.{Takes}

-- all that is after a place
pub after_place : (bytes : List ℕ) (at : ℕ) → take (length bytes - at) (drop at bytes) ≡ drop at bytes
after_place bytes at = ap (λ n. take n (drop at bytes)) (sym (length-drop at bytes)) ∙ take-length (drop at bytes)

-- a copied front came off what was after the place, and is all of it or all that there was room for
pub takes-front : (bytes into front : List ℕ) (at n : ℕ) → at < length bytes → n ≡ min (length (drop at bytes)) (length into) → front ≡ take n (drop at bytes) → Takes n (front ++ drop n into) (drop at bytes) (drop (at + n) bytes)
takes-front bytes into front at n some count is =
    let few : n ≤ length (drop at bytes) = omega (arith, count) in
    let size : length front ≡ n = ap length is ∙ length-take-le n (drop at bytes) few in
    let first : take n (front ++ drop n into) ≡ front = ap (λ k. take k (front ++ drop n into)) (sym size) ∙ take-append_seam front (drop n into) in
    let place_rest = length-drop at bytes in
    let whole = length-append front (drop n into) in
    let kept = length-drop n into in
    record {
      bytes = sym (take-append-drop n (drop at bytes)) ∙ (λ i. sym is i ++ drop-drop n at bytes i) ∙ ap (λ xs. xs ++ drop (at + n) bytes) (sym first);
      at_end = λ room. (
        λ none. absurd (omega (arith, place_rest, whole, kept, size)),
        λ empty. absurd (let e : length (drop at bytes) ≡ 0 = ap length empty in omega (arith, place_rest, e)),
      );
    }

-- what is left after a front, by the two lengths
pub rest-of : (front rest all : List ℕ) → all ≡ front ++ rest → rest ≡ drop (length all - length rest) all
rest-of front rest all e =
    let size : length all ≡ length front + length rest = ap length e ∙ length-append front rest in
    let n : length all - length rest ≡ length front = omega (arith, size) in
    sym (ap (λ k. drop k all) n ∙ ap (drop (length front)) e ∙ drop-append_seam front rest)

-- the front of a list, by its length
pub front-of : (front rest all : List ℕ) → all ≡ front ++ rest → take (length front) all ≡ front
front-of front rest all e = ap (take (length front)) e ∙ take-append_seam front rest

-- the front of a list in whose middle another was put, up to a place in that one
pub front-put : (a n : ℕ) (xs ys zs : List ℕ) → a ≤ length xs → n ≤ length ys → take (a + n) (take a xs ++ (ys ++ zs)) ≡ take a xs ++ take n ys
front-put a n xs ys zs inside few =
    let size : length (take a xs) ≡ a = length-take-le a xs inside in
    ap (λ k. take (k + n) (take a xs ++ (ys ++ zs))) (sym size) ∙ take-append-add (take a xs) (ys ++ zs) n ∙ ap (λ l. take a xs ++ l) (take-append-le n ys zs few)
