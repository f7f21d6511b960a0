-- The text of a house that was served: `door D session S END` for each session at each door, doors from 0 and sessions from 1, and then
-- the standing line of each clock.
use Rattle.std.specs.Prelude.{ℕ, suc, List, [], ◌∷◌, ◌++◌, codes, decimal}
use Rattle.std.specs.List.{flat_map}
use Rattle.clock.specs.Reports.{ClockHistory}
use Rattle.house_serve.specs.declared.ends.SessionEnd.{SessionEnd}
use Rattle.house_serve.specs.declared.ends.SessionEnd.TheVariants as ends
use Rattle.outcome_text.specs.Lines.{text_of}
use Rattle.house_run.specs.Texts.{standing_of}

-- how a session ended
abbrev pub end_word : SessionEnd → List ℕ
end_word ends.Quit = codes "quit"
end_word (ends.Closed rest) = codes "closed"
end_word ends.BadToken = codes "bad-token"
end_word (ends.Wire fault) = codes "wire"
end_word ends.LinkFault = codes "link-fault"
end_word ends.Spent = codes "spent"
end_word ends.NoMemory = codes "no-memory"

abbrev pub session_words : ℕ → ℕ → SessionEnd → List (List ℕ)
session_words door session end = codes "door" ∷ decimal door ∷ codes "session" ∷ decimal session ∷ end_word end ∷ []

-- the sessions of a door, from one of this number on
abbrev pub session_lines : ℕ → ℕ → List SessionEnd → List (List (List ℕ))
session_lines door session [] = []
session_lines door session (end ∷ ends) = session_words door session end ∷ session_lines door (suc session) ends

-- the sessions of doors, from one of this number on
abbrev pub door_lines : ℕ → List (List SessionEnd) → List (List (List ℕ))
door_lines door [] = []
door_lines door (ends ∷ doors) = session_lines door 1 ends ++ door_lines (suc door) doors

unfoldable pub serve_text : List (List SessionEnd) → List ClockHistory → List ℕ
serve_text doors clocks = text_of (door_lines 0 doors) ++ flat_map standing_of clocks
