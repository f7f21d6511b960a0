-- Six cells that hold a short list.
use Rattle.std.proofs.Common.{◌≡◌, ◌≤◌, ℕ, ◌-◌, List, ◌++◌, length, take, replicate, refl, ap, sym, ◌∙◌, subst, drop, [], ◌∷◌, suc, ◌/◌}
use Rattle.std.proofs.Math.Seq.{take-append_seam, drop-append_seam}
use Rattle.std.proofs.lemmas.List.{drop-replicate}
use Rattle.lot_base.specs.Padded.{padded, IsPadded}
use Rattle.lot_base.specs.Goods.{raised, lowered}

pub take-padded : (xs : List ℕ) → take (length xs) (padded xs) ≡ xs
take-padded xs = take-append_seam xs (replicate (6 - length xs) 0)

pub padded-is : (xs cells : List ℕ) → cells ≡ padded xs → 1 ≤ length xs → length xs ≤ 6 → IsPadded cells (length xs)
padded-is xs cells e some few =
    let front : take (length xs) cells ≡ xs = ap (take (length xs)) e ∙ take-padded xs in
    record { some = some; few = few; count_is = ap length front; zeros = ap padded front ∙ sym e }

pub length-raised : (ps : List ℕ) (set : ℕ) → length (raised ps set) ≡ length ps
length-raised [] set = refl
length-raised (p ∷ ps) set = ap (λ n. suc n) (length-raised ps (set / 2))

pub length-lowered : (ps : List ℕ) (set : ℕ) → length (lowered ps set) ≡ length ps
length-lowered [] set = refl
length-lowered (p ∷ ps) set = ap (λ n. suc n) (length-lowered ps (set / 2))

-- prices that are changed each at its place keep their number
pub record KeepsLength (change : List ℕ → ℕ → List ℕ) : Type 0 where
  pub same : (ps : List ℕ) (set : ℕ) → length (change ps set) ≡ length ps

pub keeps-raised : KeepsLength raised
keeps-raised = record { same = length-raised }

pub keeps-lowered : KeepsLength lowered
keeps-lowered = record { same = length-lowered }

pub changed-cells : (change : List ℕ → ℕ → List ℕ) → KeepsLength change → (new cells copied prices : List ℕ) (set : ℕ) → length prices ≤ 6
    → cells ≡ copied ++ drop (length prices) (replicate 6 0) → copied ≡ prices → new ≡ change (take (length prices) cells) set
    → new ++ drop (length prices) cells ≡ padded (change prices set)
changed-cells change keeps new cells copied prices set few is e f =
    let whole : cells ≡ prices ++ drop (length prices) (replicate 6 0) = is ∙ ap (λ xs. xs ++ drop (length prices) (replicate 6 0)) e in
    let zeros : drop (length prices) (replicate 6 0) ≡ replicate (6 - length prices) 0 = drop-replicate (length prices) 6 0 in
    let back : drop (length prices) cells ≡ replicate (6 - length prices) 0 = ap (drop (length prices)) whole ∙ drop-append_seam prices _ ∙ zeros in
    let front : take (length prices) cells ≡ prices = ap (take (length prices)) whole ∙ take-append_seam prices _ in
    let start : new ≡ change prices set = f ∙ ap (λ xs. change xs set) front in
    let same : length prices ≡ length (change prices set) = sym (keeps.same prices set) in
    (λ i. start i ++ back i) ∙ ap (λ n. change prices set ++ replicate (6 - n) 0) same

pub record ChangedCells (new : List ℕ) (count : ℕ) (value : List ℕ) : Type 0 where
  pub padded_new : IsPadded new count
  pub view_new : take count new ≡ value

pub changed-view : (change : List ℕ → ℕ → List ℕ) → KeepsLength change → (new cells : List ℕ) (count set : ℕ) (value : List ℕ) → IsPadded cells count
    → take count cells ≡ value → new ≡ padded (change (take count cells) set) → ChangedCells new count (change value set)
changed-view change keeps new cells count set value is view e =
    let seen = change (take count cells) set in
    let n : length seen ≡ count = keeps.same (take count cells) set ∙ is.count_is in
    let new_is = padded-is seen new e (rw n is.some) (rw n is.few) in
    let whole : take (length seen) new ≡ seen = ap (take (length seen)) e ∙ take-padded seen in
    record {
      padded_new = let P : ℕ → Type 0 = λ k. IsPadded new k in subst P n new_is;
      view_new = ap (λ k. take k new) (sym n) ∙ whole ∙ ap (λ v. change v set) view;
    }
