-- The folder in which a file of a name stands.
use Rattle.std.specs.Prelude.{◌≡◌, ℕ, List, [], ◌∷◌, Option, Some, codes, refl}
use Rattle.std.specs.Path.{path_parent, split_last_component, trim_trailing, rsplit_once}

-- the working directory, where a path has no parent or an empty one
abbrev pub folder_or_here : Option (List ℕ) → List ℕ
folder_or_here (Some (byte ∷ bytes)) = byte ∷ bytes
folder_or_here _ = codes "."

-- the folder of a name
abbrev pub folder_in : List ℕ → List ℕ
folder_in name = folder_or_here (path_parent name)

rows :
    (folder_in (codes "a/b/journal") ≡ codes "a/b") × (folder_in (codes "kept/journal") ≡ codes "kept") × (folder_in (codes "/journal") ≡ codes "/")
    × (folder_in (codes "/a/journal") ≡ codes "/a") × (folder_in (codes "journal") ≡ codes ".") × (folder_in [] ≡ codes ".")
unfolding path_parent split_last_component trim_trailing rsplit_once
rows = (refl, refl, refl, refl, refl, refl)
