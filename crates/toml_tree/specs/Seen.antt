-- What a call answers beside what a definition gives, where the call's value is seen through a view.
use Rattle.std.specs.Prelude.{◌≡◌, ◌≢◌, Result, Ok, Err}

-- the call gives what is read
abbrev pub Gives : {X Y F : Type 0} → (X → Y) → Result X F → Result Y F → Type 0
Gives view (Ok x) read = read ≡ Ok (view x)
Gives view (Err refusal) read = read ≡ Err refusal

-- the call gives what is read, unless it answers this fault
abbrev pub GivesUnless : {X Y F : Type 0} → F → (X → Y) → Result X F → Result Y F → Type 0
GivesUnless fault view (Ok x) read = read ≡ Ok (view x)
GivesUnless fault view (Err refusal) read = refusal ≢ fault → read ≡ Err refusal
