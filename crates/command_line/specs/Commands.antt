-- The commands: a line each in each of these lists, and what a line means in `Spellings`.
use Rattle.std.specs.Prelude.{◌≡◌, ◌≢◌, ⊤, ℕ, Bool, true, List, [], ◌∷◌, codes}
use Rattle.std.specs.List.{list_all}
use Rattle.lot_base.specs.declared.auction_terms.Terms.{Terms}
use Rattle.lot_base.specs.Goods.{IsRange}
use Rattle.command_line.specs.Arguments.{AreArguments, is_among, is_argument, joined}
use Rattle.command_line.specs.Parts.{Bidding, IsPlayable, IsServable, Serving}
use Rattle.command_line.specs.Spellings.{IsBidWords, IsCheck, IsExplain, IsFloatWords, IsFold, IsJudgeWords, IsMakeWords, IsMigrate, IsServeWords, IsSettle, IsStanding, IsTrialWords}

pub data Command : Type 0 where
  Fold : Terms → List ℕ → Command
  Check : List ℕ → Command
  Standing : List ℕ → List ℕ → Command
  Explain : List ℕ → List ℕ → Command
  Judge : List ℕ → List ℕ → ℕ → Command
  Settle : List ℕ → List ℕ → Bool → Command
  Trial : List ℕ → List ℕ → ℕ → Command
  Float : List ℕ → List ℕ → List ℕ → Command
  Make : ℕ → ℕ → Command
  Serve : List ℕ → List ℕ → Serving → Command
  Bid : List ℕ → List ℕ → Bidding → Command
  Migrate : List ℕ → List ℕ → List ℕ → List ℕ → Command

-- the words are those of the command
abbrev pub Spells : Command → List (List ℕ) → Type 0
Spells (Fold terms log) words = IsFold terms log words
Spells (Check auction) words = IsCheck auction words
Spells (Standing auction journals) words = IsStanding auction journals words
Spells (Explain auction journals) words = IsExplain auction journals words
Spells (Judge auction journals bidder) words = IsJudgeWords auction journals bidder words
Spells (Settle auction journals json) words = IsSettle auction journals json words
Spells (Trial auction values workers) words = IsTrialWords auction values workers words
Spells (Float auction values start) words = IsFloatWords auction values start words
Spells (Make number workers) words = IsMakeWords number workers words
Spells (Serve auction journals s) words = IsServeWords auction journals s words
Spells (Bid auction values b) words = IsBidWords auction values b words
Spells (Migrate old journals new target) words = IsMigrate old journals new target words

-- the command can be carried out; words spell no other
abbrev pub IsReady : Command → Type 0
IsReady (Trial auction values workers) = IsRange 1 64 workers
IsReady (Make number workers) = IsRange 1 64 workers
IsReady (Serve auction journals s) = IsServable s
IsReady (Bid auction values b) = IsPlayable b
IsReady (Migrate old journals new target) = journals ≢ target
IsReady command = ⊤

-- the names of the commands
abbrev pub command_names : List (List ℕ)
command_names =
    codes "fold" ∷ codes "check" ∷ codes "standing" ∷ codes "explain" ∷ codes "judge" ∷ codes "settle" ∷ codes "trial" ∷ codes "float" ∷ codes "make" ∷ codes "serve" ∷ codes "bid"
    ∷ codes "migrate" ∷ []

-- the word is the name of a command
abbrev pub IsName : List ℕ → Type 0
IsName word = is_among word command_names ≡ true

-- the words are no command
abbrev pub IsNoCommand : List (List ℕ) → Type 0
IsNoCommand words = (command : Command) → Spells command words → ⊥

-- The first word is the name of a command, and after it are these plain words, in order, and these options of it anywhere among them.
pub record IsParted (words : List (List ℕ)) (name : List ℕ) (plain options : List (List ℕ)) : Type 0 where
  pub behind : List (List ℕ)
  pub words_are : words ≡ name ∷ behind
  pub named : IsName name
  pub arguments : AreArguments name behind plain options

-- the words are a command's name, and plain words and options of it after it
pub record MayBeCommand (words : List (List ℕ)) : Type 0 where
  pub name : List ℕ
  pub plain : List (List ℕ)
  pub options : List (List ℕ)
  pub parted : IsParted words name plain options

-- The first word is the name of a command, and after it are plain words and options of it; these are they with each option and its
-- value in one word.
pub record IsJoined (words : List (List ℕ)) (name : List ℕ) (arguments : List (List ℕ)) : Type 0 where
  pub behind : List (List ℕ)
  pub words_are : words ≡ name ∷ behind
  pub named : IsName name
  pub arguments_are : arguments ≡ joined name behind
  pub known : list_all (is_argument name) arguments ≡ true
