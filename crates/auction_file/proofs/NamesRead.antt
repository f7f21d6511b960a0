-- The name of an element, once its parts are known.
use Rattle.std.proofs.Common.{◌≡◌, ℕ, Bool, not, List, map, Ok, Option, codes, sym, ◌∙◌}
use Rattle.std.specs.List.{list_any}
use Rattle.std.specs.Option.{ok_or}
use Rattle.toml.specs.Data.{Members}
use Rattle.toml.specs.View.{view}
use Rattle.toml.specs.declared.value.Value.{Value}
use Rattle.auction_file.specs.declared.faults.Key.{Key}
use Rattle.auction_file.specs.declared.faults.AuctionFault.TheVariants.{BadName, Repeated}
use Rattle.auction_file.specs.Names.{name_of}
use Rattle.auction_file.specs.AuctionFile.{has_name, name_after}
use Rattle.toml_tree.specs.Readers.{string_at}
use Rattle.toml_tree.specs.Steps.{◌>>=◌, check}
use Rattle.toml_tree.proofs.Trees.{list_any-map}

pub name_after-read : (key : Key) (earlier : List Value) (table : Members) (text name : List ℕ) (found : Option (List ℕ)) (taken answer : Bool) → string_at key (codes "name") table ≡ Ok text
    → found ≡ name_of text → Ok name ≡ ok_or found (BadName key) → taken ≡ list_any (λ v. has_name text (view v)) earlier → taken ≡ answer
    → (check (not answer) (Repeated key) >>= (λ _. Ok name)) ≡ name_after key (map view earlier) table
unfolding name_after
name_after-read key earlier table text name found taken answer read is named tested said =
    let read_name : ok_or (name_of text) (BadName key) ≡ Ok name = rw (← is) (sym named) in
    let tested_all : list_any (has_name text) (map view earlier) ≡ answer = sym (list_any-map (has_name text) view earlier) ∙ sym tested ∙ said in
    rw (read, read_name, tested_all)
