-- The words of each command.
use Rattle.std.specs.Prelude.{◌≡◌, ◌≢◌, ◌<◌, ◌^◌, ℕ, Bool, List, [], ◌∷◌, codes, decimal, length}
use Rattle.lot_base.specs.declared.limits.TheConstants.{GREATEST_CEILING, MOST_DOORS, MOST_SESSIONS}
use Rattle.lot_base.specs.Goods.{IsRange}
use Rattle.lot_base.specs.declared.auction_terms.Terms.{Terms}
use Rattle.command_line.specs.Arguments.{AreArguments, HasFlag, IsNumberOption}
use Rattle.command_line.specs.Parts.{Bidding, Serving}
use Rattle.command_line.specs.Words.{AreNumbers, IsPlainWord, comma_list}

-- the words of the terms, which are of the first version: the supply of each good joined by commas, the number of bidders, the
-- ceiling
pub record AreTermWords (terms : Terms) (supply bidders ceiling : List ℕ) : Type 0 where
  pub version_is : terms.version ≡ 1
  pub supply_is : supply ≡ comma_list terms.goods
  pub bidders_are : bidders ≡ decimal terms.bidders
  pub ceiling_is : ceiling ≡ decimal terms.ceiling

-- `fold SUPPLY BIDDERS CEILING LOG`
pub record IsFold (terms : Terms) (log : List ℕ) (words : List (List ℕ)) : Type 0 where
  pub version_is : terms.version ≡ 1
  pub words_are : words ≡ codes "fold" ∷ comma_list terms.goods ∷ decimal terms.bidders ∷ decimal terms.ceiling ∷ log ∷ []
  pub log_is : IsPlainWord log

-- `check AUCTION`
pub record IsCheck (auction : List ℕ) (words : List (List ℕ)) : Type 0 where
  pub words_are : words ≡ codes "check" ∷ auction ∷ []
  pub auction_is : IsPlainWord auction

-- `standing AUCTION JOURNALS`
pub record IsStanding (auction journals : List ℕ) (words : List (List ℕ)) : Type 0 where
  pub words_are : words ≡ codes "standing" ∷ auction ∷ journals ∷ []
  pub auction_is : IsPlainWord auction
  pub journals_are : IsPlainWord journals

-- `explain AUCTION JOURNALS`
pub record IsExplain (auction journals : List ℕ) (words : List (List ℕ)) : Type 0 where
  pub words_are : words ≡ codes "explain" ∷ auction ∷ journals ∷ []
  pub auction_is : IsPlainWord auction
  pub journals_are : IsPlainWord journals

-- `judge AUCTION JOURNALS BIDDER`
pub record IsJudgeWords (auction journals : List ℕ) (bidder : ℕ) (words : List (List ℕ)) : Type 0 where
  pub words_are : words ≡ codes "judge" ∷ auction ∷ journals ∷ decimal bidder ∷ []
  pub auction_is : IsPlainWord auction
  pub journals_are : IsPlainWord journals
  pub bidder_is : IsRange 1 12 bidder

-- `settle AUCTION JOURNALS [--json]`
pub record IsSettle (auction journals : List ℕ) (json : Bool) (words : List (List ℕ)) : Type 0 where
  pub behind : List (List ℕ)
  pub options : List (List ℕ)
  pub words_are : words ≡ codes "settle" ∷ behind
  pub arguments : AreArguments (codes "settle") behind (auction ∷ journals ∷ []) options
  pub json_is : HasFlag (codes "--json") options json

-- `trial AUCTION VALUES [--workers N]`
pub record IsTrialWords (auction values : List ℕ) (workers : ℕ) (words : List (List ℕ)) : Type 0 where
  pub behind : List (List ℕ)
  pub options : List (List ℕ)
  pub words_are : words ≡ codes "trial" ∷ behind
  pub arguments : AreArguments (codes "trial") behind (auction ∷ values ∷ []) options
  pub workers_are : IsNumberOption (codes "--workers=") 1 64 1 workers options

-- `float AUCTION VALUES START`: the price of each good at the start, joined by commas
pub record IsFloatWords (auction values start : List ℕ) (words : List (List ℕ)) : Type 0 where
  pub words_are : words ≡ codes "float" ∷ auction ∷ values ∷ comma_list start ∷ []
  pub auction_is : IsPlainWord auction
  pub values_are : IsPlainWord values
  pub start_is : AreNumbers 0 GREATEST_CEILING start

-- `make NUMBER [--workers N]`
pub record IsMakeWords (number workers : ℕ) (words : List (List ℕ)) : Type 0 where
  pub behind : List (List ℕ)
  pub options : List (List ℕ)
  pub words_are : words ≡ codes "make" ∷ behind
  pub arguments : AreArguments (codes "make") behind (decimal number ∷ []) options
  pub few : number < 2 ^ 32
  pub workers_are : IsNumberOption (codes "--workers=") 1 64 1 workers options

-- `serve AUCTION JOURNALS ADDRESS [--doors N] [--sessions N]`
pub record IsServeWords (auction journals : List ℕ) (s : Serving) (words : List (List ℕ)) : Type 0 where
  pub behind : List (List ℕ)
  pub options : List (List ℕ)
  pub words_are : words ≡ codes "serve" ∷ behind
  pub arguments : AreArguments (codes "serve") behind (auction ∷ journals ∷ s.address ∷ []) options
  pub doors_are : IsNumberOption (codes "--doors=") 1 MOST_DOORS 4 s.doors options
  pub sessions_are : IsNumberOption (codes "--sessions=") 1 MOST_SESSIONS 1 s.sessions options

-- `bid AUCTION VALUES BIDDER TOKEN ADDRESS [--looks N]`
pub record IsBidWords (auction values : List ℕ) (b : Bidding) (words : List (List ℕ)) : Type 0 where
  pub behind : List (List ℕ)
  pub options : List (List ℕ)
  pub words_are : words ≡ codes "bid" ∷ behind
  pub arguments : AreArguments (codes "bid") behind (auction ∷ values ∷ decimal b.bidder ∷ b.token ∷ b.address ∷ []) options
  pub bidder_is : IsRange 1 12 b.bidder
  pub token_is : IsRange 1 64 (length b.token)
  pub looks_are : IsNumberOption (codes "--looks=") 1 1000000000 100000 b.looks options

-- `migrate OLD JOURNALS NEW TARGET`: the journals that are read are not those that are written
pub record IsMigrate (old journals new target : List ℕ) (words : List (List ℕ)) : Type 0 where
  pub words_are : words ≡ codes "migrate" ∷ old ∷ journals ∷ new ∷ target ∷ []
  pub old_is : IsPlainWord old
  pub journals_are : IsPlainWord journals
  pub new_is : IsPlainWord new
  pub target_is : IsPlainWord target
  pub apart : journals ≢ target
