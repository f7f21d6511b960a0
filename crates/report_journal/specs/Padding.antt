-- What an append writes after its record, where all is free: after a closed gate nothing counts.
--
-- The record that is likely to come next. It lies there at the sync that opens the gate before it, so that, if it comes, its own gate
-- alone is left to open: one sync where a record takes two.
--
-- Zeros. A sync of bytes past a file's end also has to write the file's length, and with it what the file system notes of that; a sync of
-- bytes that the file has need not. So a journal that has grown writes zeros for records to come, where its file would end.
use Rattle.std.specs.Prelude.{ℕ, ◌+◌, ◌-◌, min, nat_le, nat_lt, Bool, ◌&&◌, if◌then◌else◌, List, [], ◌∷◌, ◌++◌, length, replicate}
use Rattle.lot_base.specs.declared.limits.TheConstants.{GREATEST_FILE}
use Rattle.report_journal.specs.declared.padding.TheConstants.{AHEAD, SHORT}
use Rattle.report_journal.specs.Format.{body}

-- Whether a record with so many bytes of payload, put at this gate, has a next one with so many laid after it: where there is one, the
-- journal is not short, both records are, and both are within the limit of a journal.
abbrev pub lays : ℕ → ℕ → ℕ → Bool
lays gate size next = nat_le AHEAD gate && nat_lt 0 next && nat_le next SHORT && nat_le size SHORT && nat_le (gate + 11 + size + next) GREATEST_FILE

-- the next record after its gate, and a closed gate
abbrev pub laid_of : ℕ → List ℕ → List ℕ → List ℕ
laid_of gate payload next = if lays gate (length payload) (length next) then body next ++ 0 ∷ [] else []

-- The zeros after so many bytes of payload, or of payload and next record, put at this gate of a file that has bytes up to `laid`: none
-- where the journal is short or its file has all these bytes, else as many as they lack to this length, within the limit of a journal.
abbrev pub pad_of : ℕ → ℕ → ℕ → ℕ
pad_of gate laid size =
    if nat_le AHEAD gate && nat_lt laid (gate + 6 + size)
    then min (AHEAD - (6 + size)) (GREATEST_FILE - (gate + 6 + size))
    else 0

-- all that is written after the record of a payload, put at this gate of a file that has bytes up to `laid`
abbrev pub behind_of : ℕ → ℕ → List ℕ → List ℕ → List ℕ
behind_of gate laid payload next =
    let ahead = laid_of gate payload next in
    ahead ++ replicate (pad_of gate laid (length payload + length ahead)) 0

-- the bytes that are put after the gate of such a record: it, a closed gate, and what is written after
abbrev pub put_of : ℕ → ℕ → List ℕ → List ℕ → List ℕ
put_of gate laid payload next = body payload ++ 0 ∷ behind_of gate laid payload next
