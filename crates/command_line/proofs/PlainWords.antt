-- Words none of which is empty or begins as an option does, and the words of commands.
use Rattle.std.proofs.Common.{◌≡◌, ◌<◌, ◌^◌, ◌++◌, ◌∙◌, ℕ, suc, true, false, List, [], ◌∷◌, length, refl, sym, subst, arith, ap, Option, Some, None, Ok, Err}
use Rattle.std.specs.Borrow.{Bor}
use Rattle.std.specs.Prelude.{All, IfOk, IfSome, Result, codes, decimal}
use Rattle.std.specs.Char.{is_ascii_digit}
use Rattle.std.specs.List.{AllByRecursion, list_all}
use Rattle.std.proofs.lemmas.Fmt.{decimal_nonempty}
use Rattle.std.proofs.lemmas.List.Elements.{All-nil, All-cons}
use Rattle.lot_base.proofs.Within.{both}
use Rattle.command_line.specs.Arguments.{AreArguments, flags_of, is_argument, joined, others_in, plain_in, valued_of}
use Rattle.command_line.specs.Commands.{Bid, Check, Command, Explain, Float, Fold, Judge, Make, Migrate, Serve, Settle, Standing, Trial, IsJoined, IsName, IsNoCommand, IsParted, IsReady, MayBeCommand, Spells}
use Rattle.command_line.specs.Positionals.{texts}
use Rattle.command_line.specs.Words.{AreNumbers, IsPlainWord, comma_list}
use Rattle.command_line.proofs.Commas.{small-numbers, supply-numbers}
use Rattle.command_line.proofs.Decimals.{decimal-digits, digit-range}
use Rattle.command_line.proofs.OptionWords.{number-range}
use Rattle.command_line.proofs.Parting.{no-option, plain-known}

pub plain-words : (words : List (Bor (List ℕ))) → All (λ word. IsPlainWord word.now) words → AllByRecursion IsPlainWord (texts words)
plain-words [] all = tt
plain-words (word ∷ words) all = (all 0 word (omega arith), plain-words words (λ k d inside. all (suc k) d (omega arith)))

pub all-words : (words : List (Bor (List ℕ))) → AllByRecursion IsPlainWord (texts words) → All (λ word. IsPlainWord word.now) words
all-words [] plain = All-nil (λ (word : Bor (List ℕ)). IsPlainWord word.now)
all-words (word ∷ words) plain = All-cons (λ (w : Bor (List ℕ)). IsPlainWord w.now) word words plain.0 (all-words words plain.1)

-- digits are a plain word, and so is a list of numbers
digits-plain : (ds : List ℕ) → 0 < length ds → list_all is_ascii_digit ds ≡ true → IsPlainWord ds
digits-plain [] some digits = absurd (omega arith)
digits-plain (d ∷ ds) some digits =
    let h = both (is_ascii_digit d) (list_all is_ascii_digit ds) digits in
    let r = digit-range d h.0 in
    λ e. omega arith

decimal-plain : (n : ℕ) → n < 2 ^ 64 → IsPlainWord (decimal n)
decimal-plain n small = digits-plain (decimal n) (decimal_nonempty n small) (decimal-digits n small)

front-plain : (word more : List ℕ) → IsPlainWord word → IsPlainWord (word ++ more)
front-plain [] more plain = absurd plain
front-plain (byte ∷ bytes) more plain = plain

comma-plain : (low high : ℕ) (ns : List ℕ) → high < 2 ^ 64 → AreNumbers low high ns → IsPlainWord (comma_list ns)
comma-plain low high [] small are = absurd (let s = are.at_least_one in omega arith)
comma-plain low high (n ∷ []) small are = decimal-plain n (small-numbers low high (n ∷ []) small are.within).0
comma-plain low high (n ∷ m ∷ ns) small are = front-plain (decimal n) (44 ∷ comma_list (m ∷ ns)) (decimal-plain n (small-numbers low high (n ∷ m ∷ ns) small are.within).0)

-- words of which the first names a command, and the others are plain
parted-plain : (name : List ℕ) (behind words : List (List ℕ)) → words ≡ name ∷ behind → IsName name → joined name behind ≡ behind → AllByRecursion IsPlainWord behind → MayBeCommand words
parted-plain name behind words are named same plain = record {
  name = name;
  plain = plain_in (joined name behind);
  options = others_in (joined name behind);
  parted = record {
    behind = behind;
    words_are = are;
    named = named;
    arguments = record { known = ap (list_all (is_argument name)) same ∙ plain-known name behind plain; plain_are = refl; options_are = refl };
  };
}

with-arguments : (name : List ℕ) (behind plain options words : List (List ℕ)) → words ≡ name ∷ behind → IsName name → AreArguments name behind plain options → MayBeCommand words
with-arguments name behind plain options words are named arguments = record {
  name = name;
  plain = plain;
  options = options;
  parted = record { behind = behind; words_are = are; named = named; arguments = arguments };
}

-- the words of a command are its name, plain words and its options
pub command-parted : (command : Command) (words : List (List ℕ)) → Spells command words → MayBeCommand words
command-parted (Fold terms log) words is =
    let b = terms.bidders_in_range.at_most in
    let c = terms.ceiling_in_range.at_most in
    parted-plain (codes "fold") (comma_list terms.goods ∷ decimal terms.bidders ∷ decimal terms.ceiling ∷ log ∷ []) words is.words_are refl refl
    (comma-plain 1 2047 terms.goods (omega arith) (supply-numbers terms.goods terms.supply), (decimal-plain terms.bidders (omega arith), (decimal-plain terms.ceiling (omega arith), (is.log_is, tt))))
command-parted (Check auction) words is = parted-plain (codes "check") (auction ∷ []) words is.words_are refl refl (is.auction_is, tt)
command-parted (Standing auction journals) words is = parted-plain (codes "standing") (auction ∷ journals ∷ []) words is.words_are refl refl (is.auction_is, (is.journals_are, tt))
command-parted (Explain auction journals) words is = parted-plain (codes "explain") (auction ∷ journals ∷ []) words is.words_are refl refl (is.auction_is, (is.journals_are, tt))
command-parted (Judge auction journals bidder) words is =
    let b = is.bidder_is.at_most in
    parted-plain (codes "judge") (auction ∷ journals ∷ decimal bidder ∷ []) words is.words_are refl refl (is.auction_is, (is.journals_are, (decimal-plain bidder (omega arith), tt)))
command-parted (Settle auction journals json) words is = with-arguments (codes "settle") is.behind (auction ∷ journals ∷ []) is.options words is.words_are refl is.arguments
command-parted (Trial auction values workers) words is = with-arguments (codes "trial") is.behind (auction ∷ values ∷ []) is.options words is.words_are refl is.arguments
command-parted (Float auction values start) words is =
    parted-plain (codes "float") (auction ∷ values ∷ comma_list start ∷ []) words is.words_are refl refl (is.auction_is, (is.values_are, (comma-plain 0 10000 start (omega arith) is.start_is, tt)))
command-parted (Make number workers) words is = with-arguments (codes "make") is.behind (decimal number ∷ []) is.options words is.words_are refl is.arguments
command-parted (Serve auction journals s) words is = with-arguments (codes "serve") is.behind (auction ∷ journals ∷ s.address ∷ []) is.options words is.words_are refl is.arguments
command-parted (Bid auction values b) words is =
    with-arguments (codes "bid") is.behind (auction ∷ values ∷ decimal b.bidder ∷ b.token ∷ b.address ∷ []) is.options words is.words_are refl is.arguments
command-parted (Migrate old journals new target) words is =
    parted-plain (codes "migrate") (old ∷ journals ∷ new ∷ target ∷ []) words is.words_are refl refl (is.old_is, (is.journals_are, (is.new_is, (is.target_is, tt))))

pub no-words : (command : Command) (words : List (List ℕ)) → words ≡ [] → Spells command words → ⊥
no-words command words none is = let m = command-parted command words is in let bad : [] ≡ m.name ∷ m.parted.behind = sym none ∙ m.parted.words_are in cc

-- words of which the first names no command
pub unnamed : (name : List ℕ) (behind : List (List ℕ)) → (IsName name → ⊥) → IsNoCommand (name ∷ behind)
unnamed name behind other = λ command is.
    let m = command-parted command (name ∷ behind) is in
    let e : m.name ∷ m.parted.behind ≡ name ∷ behind = sym m.parted.words_are in
    let n : m.name ≡ name = cc in
    other (subst IsName n m.parted.named)

-- words after a name of which one is neither plain nor an option
pub unknown : (name : List ℕ) (behind : List (List ℕ)) → list_all (is_argument name) (joined name behind) ≡ false → IsNoCommand (name ∷ behind)
unknown name behind other = λ command is.
    let m = command-parted command (name ∷ behind) is in
    let e : m.name ∷ m.parted.behind ≡ name ∷ behind = sym m.parted.words_are in
    let n : m.name ≡ name = cc in
    let b : m.parted.behind ≡ behind = cc in
    let known : list_all (is_argument name) (joined name behind) ≡ true = sym (λ i. list_all (is_argument (n i)) (joined (n i) (b i))) ∙ m.parted.arguments.known in
    let bad : true ≡ false = sym known ∙ other in
    cc

-- words that were joined are parted by what they are
pub joined-parted : (words : List (List ℕ)) (name found : List ℕ) (arguments plain options : List (List ℕ)) → IsJoined words name arguments → found ≡ name → plain ≡ plain_in arguments → options ≡ others_in arguments → IsParted words found plain options
joined-parted words name found arguments plain options is same plain_are options_are =
    let P : List ℕ → Type 0 = λ n. IsParted words n plain options in
    let Q : List (List ℕ) → Type 0 = λ ws. list_all (is_argument name) ws ≡ true in
    subst P (sym same) (record {
      behind = is.behind;
      words_are = is.words_are;
      named = is.named;
      arguments = record {
        known = subst Q is.arguments_are is.known;
        plain_are = plain_are ∙ ap plain_in is.arguments_are;
        options_are = options_are ∙ ap others_in is.arguments_are;
      };
    })

pub may-be : (words : List (List ℕ)) (name : List ℕ) (arguments : List (List ℕ)) → IsJoined words name arguments → MayBeCommand words
may-be words name arguments is = record {
  name = name;
  plain = plain_in arguments;
  options = others_in arguments;
  parted = joined-parted words name name arguments (plain_in arguments) (others_in arguments) is refl refl refl;
}

pub same-parted : (words : List (List ℕ)) (name found : List ℕ) (plain items options others : List (List ℕ)) → found ≡ name → plain ≡ items → options ≡ others → IsParted words found items others → IsParted words name plain options
same-parted words name found plain items options others same p o is =
    let P : List ℕ → Type 0 = λ n. IsParted words n items others in
    let Q : List (List ℕ) → Type 0 = λ ws. IsParted words name ws others in
    let R : List (List ℕ) → Type 0 = λ ws. IsParted words name plain ws in
    subst R (sym o) (subst Q (sym p) (subst P same is))

-- words that were parted after the name of a command without an option
pub parted-words : (words : List (List ℕ)) (name found : List ℕ) (plain items options : List (List ℕ)) → found ≡ name → plain ≡ items → valued_of name ≡ [] → flags_of name ≡ [] → IsParted words found items options → words ≡ name ∷ plain
parted-words words name found plain items options same are none no-flags is =
    let it = same-parted words name found plain items options options same are refl is in
    it.words_are ∙ ap (λ ws. name ∷ ws) (no-option name it.behind plain options none no-flags it.arguments)

-- the words of a command give it what it needs to be carried out
pub spelled-ready : (command : Command) (words : List (List ℕ)) → Spells command words → IsReady command
spelled-ready (Fold terms log) words is = tt
spelled-ready (Check auction) words is = tt
spelled-ready (Standing auction journals) words is = tt
spelled-ready (Explain auction journals) words is = tt
spelled-ready (Judge auction journals bidder) words is = tt
spelled-ready (Settle auction journals json) words is = tt
spelled-ready (Trial auction values workers) words is = number-range (codes "--workers=") 1 64 1 workers is.options (record { at_least = omega arith; at_most = omega arith }) is.workers_are
spelled-ready (Float auction values start) words is = tt
spelled-ready (Make number workers) words is = number-range (codes "--workers=") 1 64 1 workers is.options (record { at_least = omega arith; at_most = omega arith }) is.workers_are
spelled-ready (Serve auction journals s) words is =
    let doors = number-range (codes "--doors=") 1 64 4 s.doors is.options (record { at_least = omega arith; at_most = omega arith }) is.doors_are in
    let sessions = number-range (codes "--sessions=") 1 10000 1 s.sessions is.options (record { at_least = omega arith; at_most = omega arith }) is.sessions_are in
    record { some_door = doors.at_least; few_doors = doors.at_most; some_session = sessions.at_least; few_sessions = sessions.at_most }
spelled-ready (Bid auction values b) words is = record {
  from_one = is.bidder_is.at_least;
  token = is.token_is;
  looks = (number-range (codes "--looks=") 1 1000000000 100000 b.looks is.options (record { at_least = omega arith; at_most = omega arith }) is.looks_are).at_least;
}
spelled-ready (Migrate old journals new target) words is = is.apart

pub some-then : {A E : Type 0} (r : Result (Option A) E) (P Q : A → Type 0) → ((a : A) → P a → Q a) → IfOk r (λ o. IfSome o P) → IfOk r (λ o. IfSome o Q)
some-then (Err e) P Q f p = tt
some-then (Ok None) P Q f p = tt
some-then (Ok (Some a)) P Q f p = f a p
