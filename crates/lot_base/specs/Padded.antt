-- A list of one to six numbers in six cells: its numbers, and zeros after them.
use Rattle.std.specs.Prelude.{◌≡◌, ◌≤◌, ℕ, ◌-◌, List, ◌++◌, length, take, replicate}

abbrev pub padded : List ℕ → List ℕ
padded xs = xs ++ replicate (6 - length xs) 0

pub record IsPadded (cells : List ℕ) (count : ℕ) : Type 0 where
  pub some : 1 ≤ count
  pub few : count ≤ 6
  pub count_is : length (take count cells) ≡ count
  pub zeros : padded (take count cells) ≡ cells
