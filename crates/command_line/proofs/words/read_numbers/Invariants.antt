use Rattle.std.proofs.Common.{◌≡◌, ◌≤◌, ◌++◌, length, map, decimal}
use Rattle.std.specs.List.{AllByRecursion}
use Rattle.lot_base.specs.Goods.{IsRange}
use denote.Shadow.{shadow}
use denote.Text.{Utf8}
use Rattle.command_line.proofs.Commas.{parts}
use Rattle.command_line.proofs.words.read_numbers.Given as goal

abbrev pub invariant-loop-piece : goal.invariant-loop-piece
invariant-loop-piece l = record {
  read : map decimal l.numbers.items ++ parts l.rest ≡ parts l.word;
  text : shadow (Utf8 l.rest);
  few : length l.numbers.items ≤ 6;
  within : AllByRecursion (IsRange l.low l.high) l.numbers.items;
}

abbrev pub decreases-loop-piece : goal.decreases-loop-piece
decreases-loop-piece l = length l.rest
