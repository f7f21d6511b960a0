-- Reading the elements of an array in turn, each beside those before it. The readers of the code go over values, so the statements are on
-- values and what they are seen as.
use Rattle.std.proofs.Common.{◌≡◌, ℕ, ◌+◌, ◌<◌, List, [], ◌∷◌, ◌++◌, length, get_or, take, map, Ok, Err, Result, ap, ◌∙◌, sym, arith}
use Rattle.std.proofs.Math.ListN.{get_or-map}
use Rattle.std.proofs.lemmas.List.{length-map, take-map}
use Rattle.toml.specs.Data.{Data}
use Rattle.toml.specs.View.{view}
use Rattle.toml.specs.declared.value.Value.{Value}
use Rattle.toml_tree.proofs.Turns.{after}
use Rattle.toml_tree.proofs.Turns as turns
use Rattle.auction_file.specs.declared.faults.AuctionFault.{AuctionFault}
use Rattle.auction_file.specs.AuctionFile.{each}

-- what reads an element: those before it, its place, and itself
abbrev pub Reader : Type 0 → Type 0
Reader A = List Data → ℕ → Data → Result A AuctionFault

-- what the elements from a place on give
abbrev pub rest_of : {A : Type 0} → Reader A → List Data → ℕ → Result (List A) AuctionFault
rest_of f ds k = turns.rest_of (λ place. f (take place ds) place) 0 ds k

element-at : (vs : List Value) (k : ℕ) (v : Value) → v ≡ get_or vs k v → view v ≡ get_or (map view vs) k (view v)
element-at vs k v at = sym (get_or-map view vs k v ∙ ap view (sym at))

read-at : {A : Type 0} (f : Reader A) (vs : List Value) (k : ℕ) (d : Data) (answer : Result A AuctionFault) → f (map view (take k vs)) k d ≡ answer → f (take (0 + k) (map view vs)) (0 + k) d ≡ answer
read-at f vs k d answer read =
    let start : 0 + k ≡ k = omega arith in
    ap (λ n. f (take n (map view vs)) n d) start ∙ ap (λ ds. f ds k d) (take-map view k vs) ∙ read

-- one element more, which was read
pub each-turn : {A : Type 0} (f : Reader A) (vs : List Value) (k : ℕ) (v : Value) (front : List A) (x : A) → k < length vs → v ≡ get_or vs k v
    → f (map view (take k vs)) k (view v) ≡ Ok x → after front (rest_of f (map view vs) k) ≡ each f (map view vs)
    → after (front ++ x ∷ []) (rest_of f (map view vs) (k + 1)) ≡ each f (map view vs)
each-turn f vs k v front x within at read so_far =
    let count = length-map vs view in
    turns.each-turn (λ place. f (take place (map view vs)) place) 0 (map view vs) k (view v) front x (omega (arith, count)) (element-at vs k v at) (read-at f vs k (view v) (Ok x) read) so_far

-- one element more, which is refused
pub each-refused : {A : Type 0} (f : Reader A) (vs : List Value) (k : ℕ) (v : Value) (front : List A) (refusal : AuctionFault) → k < length vs → v ≡ get_or vs k v
    → f (map view (take k vs)) k (view v) ≡ Err refusal → after front (rest_of f (map view vs) k) ≡ each f (map view vs)
    → each f (map view vs) ≡ Err refusal
each-refused f vs k v front refusal within at read so_far =
    let count = length-map vs view in
    turns.each-refused (λ place. f (take place (map view vs)) place) 0 (map view vs) k (view v) front refusal (omega (arith, count)) (element-at vs k v at) (read-at f vs k (view v) (Err refusal) read) so_far
