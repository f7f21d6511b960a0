-- A document beside the test of its bytes.
use Rattle.std.proofs.Common.{◌≡◌, ℕ, List, IsUtf8, Some, None, inl, inr}
use Rattle.std.specs.Str.{is_utf8}
use Rattle.std.proofs.lemmas.Str.{IsUtf8-from_is_utf8, is_utf8-from_IsUtf8}
use Rattle.std.proofs.lemmas.Bool.{cases_Bool}
use Rattle.toml.specs.Data.{Members}
use Rattle.toml.specs.Parse.{parse_document}
use Rattle.toml_tree.specs.Tree.{tree_of}

pub tree_of-read : (bytes : List ℕ) (tree : Members) → IsUtf8 bytes → parse_document bytes ≡ Some tree → tree_of bytes ≡ Some tree
unfolding tree_of
tree_of-read bytes tree text read = rw (is_utf8-from_IsUtf8 bytes text, read)

pub tree_of-refused : (bytes : List ℕ) → (IsUtf8 bytes → parse_document bytes ≡ None) → tree_of bytes ≡ None
unfolding tree_of
tree_of-refused bytes refused =
    elim (cases_Bool (is_utf8 bytes)) [
      | inl text ↦ rw (text, refused (IsUtf8-from_is_utf8 bytes text))
      | inr other ↦ rw other
    ]
