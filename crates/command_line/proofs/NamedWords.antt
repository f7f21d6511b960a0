-- Words by the ids of one argument or four, and the commands that they spell.
use Rattle.std.proofs.Common.{◌≡◌, ◌≤◌, ◌<◌, ◌^◌, ◌-◌, arith, ℕ, Bool, List, [], ◌∷◌, length, refl, sym, ap, ◌∙◌, subst}
use Rattle.std.specs.Prelude.{codes, decimal, Some, IsSome, Option}
use Rattle.std.specs.List.{AllByRecursion}
use Rattle.clap.specs.Matches.{first_value}
use Rattle.clap.specs.declared.parser.matches.Found.{Found}
use Rattle.lot_base.specs.declared.auction_terms.Terms.{Terms}
use Rattle.command_line.specs.Positionals.{AreNamed}
use Rattle.command_line.specs.Spellings.{AreTermWords, IsBidWords, IsCheck, IsExplain, IsFloatWords, IsFold, IsJudgeWords, IsMakeWords, IsMigrate, IsServeWords, IsSettle, IsStanding, IsTrialWords}
use Rattle.lot_base.specs.Goods.{IsRange}
use Rattle.command_line.specs.Arguments.{AreArguments, HasFlag, IsNumberOption}
use Rattle.command_line.specs.Givens.{IsBidOf, IsMigrateOf, bid_ids, migrate_ids}
use Rattle.command_line.specs.Parts.{Bidding, Serving}
use Rattle.command_line.proofs.CommandKinds.{bid, float, judge, make, migrate, of-name, serve, settle, trial}
use Rattle.command_line.proofs.Parting.{same-arguments}
use Rattle.command_line.specs.Commands.{Command, IsNoCommand, IsParted, Spells}
use Rattle.command_line.specs.Words.{AreNumbers, IsPlainWord, comma_list}

pub record IsOneWord (f : Found) (a : List ℕ) (words : List (List ℕ)) : Type 0 where
  pub word : List ℕ
  pub words_are : words ≡ word ∷ []
  pub word_is : first_value f a ≡ Some word

pub one-word : (f : Found) (a : List ℕ) (words : List (List ℕ)) → AreNamed f (a ∷ []) words → IsOneWord f a words
one-word f a [] named = absurd named
one-word f a (word ∷ []) named = record { word = word; words_are = refl; word_is = named.0 }
one-word f a (word ∷ more ∷ words) named = absurd named.1

pub record AreTwoWords (f : Found) (a b : List ℕ) (words : List (List ℕ)) : Type 0 where
  pub first : List ℕ
  pub second : List ℕ
  pub words_are : words ≡ first ∷ second ∷ []
  pub first_is : first_value f a ≡ Some first
  pub second_is : first_value f b ≡ Some second

pub two-words : (f : Found) (a b : List ℕ) (words : List (List ℕ)) → AreNamed f (a ∷ b ∷ []) words → AreTwoWords f a b words
two-words f a b [] named = absurd named
two-words f a b (v ∷ []) named = absurd named.1
two-words f a b (v ∷ w ∷ []) named = record { first = v; second = w; words_are = refl; first_is = named.0; second_is = named.1.0 }
two-words f a b (v ∷ w ∷ x ∷ words) named = absurd named.1.1

pub record AreFourWords (f : Found) (a b c d : List ℕ) (words : List (List ℕ)) : Type 0 where
  pub first : List ℕ
  pub second : List ℕ
  pub third : List ℕ
  pub fourth : List ℕ
  pub words_are : words ≡ first ∷ second ∷ third ∷ fourth ∷ []
  pub first_is : first_value f a ≡ Some first
  pub second_is : first_value f b ≡ Some second
  pub third_is : first_value f c ≡ Some third
  pub fourth_is : first_value f d ≡ Some fourth

pub four-words : (f : Found) (a b c d : List ℕ) (words : List (List ℕ)) → AreNamed f (a ∷ b ∷ c ∷ d ∷ []) words → AreFourWords f a b c d words
four-words f a b c d [] named = absurd named
four-words f a b c d (v ∷ []) named = absurd named.1
four-words f a b c d (v ∷ w ∷ []) named = absurd named.1.1
four-words f a b c d (v ∷ w ∷ x ∷ []) named = absurd named.1.1.1
four-words f a b c d (v ∷ w ∷ x ∷ y ∷ []) named = record {
  first = v;
  second = w;
  third = x;
  fourth = y;
  words_are = refl;
  first_is = named.0;
  second_is = named.1.0;
  third_is = named.1.1.0;
  fourth_is = named.1.1.1.0;
}
four-words f a b c d (v ∷ w ∷ x ∷ y ∷ z ∷ words) named = absurd named.1.1.1.1

pub there : (o : Option (List ℕ)) (word : List ℕ) → o ≡ Some word → IsSome o
there o word e = let P : Option (List ℕ) → Type 0 = λ x. IsSome x in subst P (sym e) refl

pub same-word : (o : Option (List ℕ)) (word other : List ℕ) → o ≡ Some word → o ≡ Some other → word ≡ other
same-word o word other e g = let h : Some word ≡ Some other = sym e ∙ g in cc

pub spells-check : (f : Found) (a auction : List ℕ) (words : List (List ℕ)) → AreNamed f (a ∷ []) words → first_value f a ≡ Some auction → AllByRecursion IsPlainWord words → IsCheck auction (codes "check" ∷ words)
spells-check f a auction words named is plain =
    let one = one-word f a words named in
    let same : words ≡ auction ∷ [] = one.words_are ∙ ap (λ w. w ∷ []) (same-word (first_value f a) one.word auction one.word_is is) in
    let P : List (List ℕ) → Type 0 = λ ws. AllByRecursion IsPlainWord ws in
    record { words_are = ap (λ ws. codes "check" ∷ ws) same; auction_is = (subst P same plain).0 }

pub spells-fold : (f : Found) (a b c d supply bidders ceiling log : List ℕ) (words : List (List ℕ)) (terms : Terms) → AreNamed f (a ∷ b ∷ c ∷ d ∷ []) words
    → first_value f a ≡ Some supply → first_value f b ≡ Some bidders → first_value f c ≡ Some ceiling → first_value f d ≡ Some log
    → AllByRecursion IsPlainWord words → AreTermWords terms supply bidders ceiling → IsFold terms log (codes "fold" ∷ words)
spells-fold f a b c d supply bidders ceiling log words terms named supply_is bidders_is ceiling_is log_is plain read =
    let four = four-words f a b c d words named in
    let s = same-word (first_value f a) four.first supply four.first_is supply_is ∙ read.supply_is in
    let n = same-word (first_value f b) four.second bidders four.second_is bidders_is ∙ read.bidders_are in
    let m = same-word (first_value f c) four.third ceiling four.third_is ceiling_is ∙ read.ceiling_is in
    let l = same-word (first_value f d) four.fourth log four.fourth_is log_is in
    let same = four.words_are ∙ (λ i. s i ∷ n i ∷ m i ∷ l i ∷ []) in
    let P : List (List ℕ) → Type 0 = λ ws. AllByRecursion IsPlainWord ws in
    record { version_is = read.version_is; words_are = ap (λ ws. codes "fold" ∷ ws) same; log_is = (subst P same plain).1.1.1.0 }

pub spells-standing : (f : Found) (a b auction journals : List ℕ) (words : List (List ℕ)) → AreNamed f (a ∷ b ∷ []) words → first_value f a ≡ Some auction → first_value f b ≡ Some journals → AllByRecursion IsPlainWord words
    → IsStanding auction journals (codes "standing" ∷ words)
spells-standing f a b auction journals words named auction_is journals_are plain =
    let two = two-words f a b words named in
    let x = same-word (first_value f a) two.first auction two.first_is auction_is in
    let y = same-word (first_value f b) two.second journals two.second_is journals_are in
    let same : words ≡ auction ∷ journals ∷ [] = two.words_are ∙ (λ i. x i ∷ y i ∷ []) in
    let P : List (List ℕ) → Type 0 = λ ws. AllByRecursion IsPlainWord ws in
    let all = subst P same plain in
    record { words_are = ap (λ ws. codes "standing" ∷ ws) same; auction_is = all.0; journals_are = all.1.0 }

-- words by the ids, of which each has one
pub named-same : (f : Found) (ids words others : List (List ℕ)) → AreNamed f ids words → AreNamed f ids others → words ≡ others
named-same f [] [] [] is it = refl
named-same f [] [] (w ∷ others) is it = absurd it
named-same f [] (v ∷ words) others is it = absurd is
named-same f (id ∷ ids) [] others is it = absurd is
named-same f (id ∷ ids) (v ∷ words) [] is it = absurd it
named-same f (id ∷ ids) (v ∷ words) (w ∷ others) is it =
    let a = same-word (first_value f id) v w is.0 it.0 in
    let b = named-same f ids words others is.1 it.1 in
    λ i. a i ∷ b i

pub named-some : (f : Found) (ids words : List (List ℕ)) → AreNamed f ids words → AllByRecursion (λ id. IsSome (first_value f id)) ids
named-some f [] words is = tt
named-some f (id ∷ ids) [] is = absurd is
named-some f (id ∷ ids) (word ∷ words) is = (there (first_value f id) word is.0, named-some f ids words is.1)

-- the arguments after a name, where the plain words are these
other-plain : (name : List ℕ) (behind plain words options : List (List ℕ)) → plain ≡ words → AreArguments name behind plain options → AreArguments name behind words options
other-plain name behind plain words options e are = let P : List (List ℕ) → Type 0 = λ ws. AreArguments name behind ws options in subst P e are

pub spells-explain : (f : Found) (auction journals : List ℕ) (words : List (List ℕ)) → AreNamed f (codes "AUCTION" ∷ codes "JOURNALS" ∷ []) words → first_value f (codes "AUCTION") ≡ Some auction → first_value f (codes "JOURNALS") ≡ Some journals
    → AllByRecursion IsPlainWord words → IsExplain auction journals (codes "explain" ∷ words)
spells-explain f auction journals words named auction_is journals_are plain =
    let same = named-same f (codes "AUCTION" ∷ codes "JOURNALS" ∷ []) words (auction ∷ journals ∷ []) named (auction_is, (journals_are, tt)) in
    let P : List (List ℕ) → Type 0 = λ ws. AllByRecursion IsPlainWord ws in
    let all = subst P same plain in
    record { words_are = ap (λ ws. codes "explain" ∷ ws) same; auction_is = all.0; journals_are = all.1.0 }

pub spells-judge : (f : Found) (auction journals word : List ℕ) (bidder : ℕ) (words : List (List ℕ)) → AreNamed f (codes "AUCTION" ∷ codes "JOURNALS" ∷ codes "BIDDER" ∷ []) words
    → first_value f (codes "AUCTION") ≡ Some auction → first_value f (codes "JOURNALS") ≡ Some journals → first_value f (codes "BIDDER") ≡ Some word → word ≡ decimal bidder → IsRange 1 12 bidder
    → AllByRecursion IsPlainWord words → IsJudgeWords auction journals bidder (codes "judge" ∷ words)
spells-judge f auction journals word bidder words named auction_is journals_are word_is digits range plain =
    let same = named-same f (codes "AUCTION" ∷ codes "JOURNALS" ∷ codes "BIDDER" ∷ []) words (auction ∷ journals ∷ decimal bidder ∷ []) named (auction_is, (journals_are, (word_is ∙ ap Some digits, tt))) in
    let P : List (List ℕ) → Type 0 = λ ws. AllByRecursion IsPlainWord ws in
    let all = subst P same plain in
    record { words_are = ap (λ ws. codes "judge" ∷ ws) same; auction_is = all.0; journals_are = all.1.0; bidder_is = range }

pub spells-float : (f : Found) (auction values word start : List ℕ) (words : List (List ℕ)) → AreNamed f (codes "AUCTION" ∷ codes "VALUES" ∷ codes "START" ∷ []) words
    → first_value f (codes "AUCTION") ≡ Some auction → first_value f (codes "VALUES") ≡ Some values → first_value f (codes "START") ≡ Some word → word ≡ comma_list start → AreNumbers 0 10000 start
    → AllByRecursion IsPlainWord words → IsFloatWords auction values start (codes "float" ∷ words)
spells-float f auction values word start words named auction_is values_are word_is list numbers plain =
    let same = named-same f (codes "AUCTION" ∷ codes "VALUES" ∷ codes "START" ∷ []) words (auction ∷ values ∷ comma_list start ∷ []) named (auction_is, (values_are, (word_is ∙ ap Some list, tt))) in
    let P : List (List ℕ) → Type 0 = λ ws. AllByRecursion IsPlainWord ws in
    let all = subst P same plain in
    record { words_are = ap (λ ws. codes "float" ∷ ws) same; auction_is = all.0; values_are = all.1.0; start_is = numbers }

pub spells-settle : (f : Found) (auction journals : List ℕ) (json : Bool) (line words options : List (List ℕ)) → AreNamed f (codes "AUCTION" ∷ codes "JOURNALS" ∷ []) words → first_value f (codes "AUCTION") ≡ Some auction → first_value f (codes "JOURNALS") ≡ Some journals
    → IsParted line (codes "settle") words options → HasFlag (codes "--json") options json → IsSettle auction journals json line
spells-settle f auction journals json line words options named auction_is journals_are parted flag =
    let same = named-same f (codes "AUCTION" ∷ codes "JOURNALS" ∷ []) words (auction ∷ journals ∷ []) named (auction_is, (journals_are, tt)) in
    record {
      behind = parted.behind;
      options = options;
      words_are = parted.words_are;
      arguments = other-plain (codes "settle") parted.behind words (auction ∷ journals ∷ []) options same parted.arguments;
      json_is = flag;
    }

pub spells-trial : (f : Found) (auction values : List ℕ) (workers : ℕ) (line words options : List (List ℕ)) → AreNamed f (codes "AUCTION" ∷ codes "VALUES" ∷ []) words → first_value f (codes "AUCTION") ≡ Some auction → first_value f (codes "VALUES") ≡ Some values
    → IsParted line (codes "trial") words options → IsNumberOption (codes "--workers=") 1 64 1 workers options → IsTrialWords auction values workers line
spells-trial f auction values workers line words options named auction_is values_are parted number =
    let same = named-same f (codes "AUCTION" ∷ codes "VALUES" ∷ []) words (auction ∷ values ∷ []) named (auction_is, (values_are, tt)) in
    record {
      behind = parted.behind;
      options = options;
      words_are = parted.words_are;
      arguments = other-plain (codes "trial") parted.behind words (auction ∷ values ∷ []) options same parted.arguments;
      workers_are = number;
    }

pub spells-make : (f : Found) (word : List ℕ) (number workers : ℕ) (line words options : List (List ℕ)) → AreNamed f (codes "NUMBER" ∷ []) words → first_value f (codes "NUMBER") ≡ Some word → word ≡ decimal number → number ≤ 2 ^ 32 - 1
    → IsParted line (codes "make") words options → IsNumberOption (codes "--workers=") 1 64 1 workers options → IsMakeWords number workers line
spells-make f word number workers line words options named is digits few parted option =
    let same = named-same f (codes "NUMBER" ∷ []) words (decimal number ∷ []) named (is ∙ ap Some digits, tt) in
    record {
      behind = parted.behind;
      options = options;
      words_are = parted.words_are;
      arguments = other-plain (codes "make") parted.behind words (decimal number ∷ []) options same parted.arguments;
      few = omega arith;
      workers_are = option;
    }

pub spells-serve : (f : Found) (auction journals : List ℕ) (s : Serving) (line words options : List (List ℕ)) → AreNamed f (codes "AUCTION" ∷ codes "JOURNALS" ∷ codes "ADDRESS" ∷ []) words
    → first_value f (codes "AUCTION") ≡ Some auction → first_value f (codes "JOURNALS") ≡ Some journals → first_value f (codes "ADDRESS") ≡ Some s.address
    → IsParted line (codes "serve") words options → IsNumberOption (codes "--doors=") 1 64 4 s.doors options → IsNumberOption (codes "--sessions=") 1 10000 1 s.sessions options → IsServeWords auction journals s line
spells-serve f auction journals s line words options named auction_is journals_are address_is parted doors sessions =
    let same = named-same f (codes "AUCTION" ∷ codes "JOURNALS" ∷ codes "ADDRESS" ∷ []) words (auction ∷ journals ∷ s.address ∷ []) named (auction_is, (journals_are, (address_is, tt))) in
    record {
      behind = parted.behind;
      options = options;
      words_are = parted.words_are;
      arguments = other-plain (codes "serve") parted.behind words (auction ∷ journals ∷ s.address ∷ []) options same parted.arguments;
      doors_are = doors;
      sessions_are = sessions;
    }

pub spells-bid : (f : Found) (looks : ℕ) (command : Command) (line words options : List (List ℕ)) → AreNamed f bid_ids words → IsBidOf f looks command → IsParted line (codes "bid") words options
    → IsNumberOption (codes "--looks=") 1 1000000000 100000 looks options → Spells command line
spells-bid f looks command line words options named is parted number =
    let b = is.part in
    let same = named-same f bid_ids words (is.auction ∷ is.values ∷ decimal b.bidder ∷ b.token ∷ b.address ∷ []) named (is.auction_is, (is.values_are, (is.bidder_is, (is.token_is, (is.address_is, tt))))) in
    let P : Command → Type 0 = λ c. Spells c line in
    let Q : ℕ → Type 0 = λ n. IsNumberOption (codes "--looks=") 1 1000000000 100000 n options in
    subst P (sym is.command_is) (record {
      behind = parted.behind;
      options = options;
      words_are = parted.words_are;
      arguments = other-plain (codes "bid") parted.behind words (is.auction ∷ is.values ∷ decimal b.bidder ∷ b.token ∷ b.address ∷ []) options same parted.arguments;
      bidder_is = is.bidder_range;
      token_is = is.token_range;
      looks_are = subst Q (sym is.looks_are) number;
    })

pub spells-migrate : (f : Found) (command : Command) (words : List (List ℕ)) → AreNamed f migrate_ids words → IsMigrateOf f command → AllByRecursion IsPlainWord words → Spells command (codes "migrate" ∷ words)
spells-migrate f command words named is plain =
    let same : words ≡ is.old ∷ is.journals ∷ is.new ∷ is.target ∷ [] = named-same f migrate_ids words (is.old ∷ is.journals ∷ is.new ∷ is.target ∷ []) named (is.old_is, (is.journals_are, (is.new_is, (is.target_is, tt)))) in
    let P : List (List ℕ) → Type 0 = λ ws. AllByRecursion IsPlainWord ws in
    let all = subst P same plain in
    let Q : Command → Type 0 = λ c. Spells c (codes "migrate" ∷ words) in
    subst Q (sym is.command_is) (record {
      words_are = ap (λ ws. codes "migrate" ∷ ws) same;
      old_is = all.0;
      journals_are = all.1.0;
      new_is = all.1.1.0;
      target_is = all.1.1.1.0;
      apart = is.apart;
    })

-- words of which the first is the name of a command, and the others are not what it takes

-- the third of three words
third-word : (f : Found) (a b c word first second third : List ℕ) (words : List (List ℕ)) → AreNamed f (a ∷ b ∷ c ∷ []) words → first_value f c ≡ Some word → words ≡ first ∷ second ∷ third ∷ [] → word ≡ third
third-word f a b c word first second third words named is are =
    let P : List (List ℕ) → Type 0 = λ ws. AreNamed f (a ∷ b ∷ c ∷ []) ws in
    same-word (first_value f c) word third is (subst P are named).1.1.0

pub no-judge : (words : List (List ℕ)) → ((auction journals : List ℕ) (bidder : ℕ) → IsRange 1 12 bidder → words ≡ auction ∷ journals ∷ decimal bidder ∷ [] → ⊥) → IsNoCommand (codes "judge" ∷ words)
no-judge words none = λ command is.
    let o = of-name command (codes "judge" ∷ words) (codes "judge") words judge is refl refl in
    let P : Command → Type 0 = λ c. Spells c (codes "judge" ∷ words) in
    let it : IsJudgeWords o.0 o.1 o.2 (codes "judge" ∷ words) = subst P o.3 is in
    let e : codes "judge" ∷ words ≡ codes "judge" ∷ o.0 ∷ o.1 ∷ decimal o.2 ∷ [] = it.words_are in
    none o.0 o.1 o.2 it.bidder_is cc

-- the third word is none of a bidder
pub no-number : (f : Found) (word : List ℕ) (words : List (List ℕ)) → AreNamed f (codes "AUCTION" ∷ codes "JOURNALS" ∷ codes "BIDDER" ∷ []) words → first_value f (codes "BIDDER") ≡ Some word
    → ((n : ℕ) → 1 ≤ n → n ≤ 12 → word ≡ decimal n → ⊥) → IsNoCommand (codes "judge" ∷ words)
no-number f word words named is none = no-judge words (λ auction journals bidder range are.
    none bidder range.at_least range.at_most (third-word f (codes "AUCTION") (codes "JOURNALS") (codes "BIDDER") word auction journals (decimal bidder) words named is are))

pub no-float : (words : List (List ℕ)) → ((auction values start : List ℕ) → AreNumbers 0 10000 start → words ≡ auction ∷ values ∷ comma_list start ∷ [] → ⊥) → IsNoCommand (codes "float" ∷ words)
no-float words none = λ command is.
    let o = of-name command (codes "float" ∷ words) (codes "float") words float is refl refl in
    let P : Command → Type 0 = λ c. Spells c (codes "float" ∷ words) in
    let it : IsFloatWords o.0 o.1 o.2 (codes "float" ∷ words) = subst P o.3 is in
    let e : codes "float" ∷ words ≡ codes "float" ∷ o.0 ∷ o.1 ∷ comma_list o.2 ∷ [] = it.words_are in
    none o.0 o.1 o.2 it.start_is cc

-- the third word lists no prices
pub no-list : (f : Found) (word : List ℕ) (words : List (List ℕ)) → AreNamed f (codes "AUCTION" ∷ codes "VALUES" ∷ codes "START" ∷ []) words → first_value f (codes "START") ≡ Some word
    → ((prices : List ℕ) → AreNumbers 0 10000 prices → word ≡ comma_list prices → ⊥) → IsNoCommand (codes "float" ∷ words)
no-list f word words named is none = no-float words (λ auction values start numbers are.
    none start numbers (third-word f (codes "AUCTION") (codes "VALUES") (codes "START") word auction values (comma_list start) words named is are))

pub no-settle : (line plain options : List (List ℕ)) → IsParted line (codes "settle") plain options → ((auction journals : List ℕ) (json : Bool) → plain ≡ auction ∷ journals ∷ [] → HasFlag (codes "--json") options json → ⊥) → IsNoCommand line
no-settle line plain options parted none = λ command is.
    let o = of-name command line (codes "settle") parted.behind settle is parted.words_are refl in
    let P : Command → Type 0 = λ c. Spells c line in
    let it : IsSettle o.0 o.1 o.2 line = subst P o.3 is in
    let same = same-arguments (codes "settle") line parted.behind it.behind plain options (o.0 ∷ o.1 ∷ []) it.options parted.words_are it.words_are parted.arguments it.arguments in
    let Q : List (List ℕ) → Type 0 = λ ws. HasFlag (codes "--json") ws o.2 in
    none o.0 o.1 o.2 same.plain_same (subst Q (sym same.options_same) it.json_is)

pub no-trial : (line plain options : List (List ℕ)) → IsParted line (codes "trial") plain options → ((auction values : List ℕ) (workers : ℕ) → plain ≡ auction ∷ values ∷ [] → IsNumberOption (codes "--workers=") 1 64 1 workers options → ⊥) → IsNoCommand line
no-trial line plain options parted none = λ command is.
    let o = of-name command line (codes "trial") parted.behind trial is parted.words_are refl in
    let P : Command → Type 0 = λ c. Spells c line in
    let it : IsTrialWords o.0 o.1 o.2 line = subst P o.3 is in
    let same = same-arguments (codes "trial") line parted.behind it.behind plain options (o.0 ∷ o.1 ∷ []) it.options parted.words_are it.words_are parted.arguments it.arguments in
    let Q : List (List ℕ) → Type 0 = λ ws. IsNumberOption (codes "--workers=") 1 64 1 o.2 ws in
    none o.0 o.1 o.2 same.plain_same (subst Q (sym same.options_same) it.workers_are)

pub no-make : (line plain options : List (List ℕ)) → IsParted line (codes "make") plain options
    → ((number workers : ℕ) → number < 2 ^ 32 → plain ≡ decimal number ∷ [] → IsNumberOption (codes "--workers=") 1 64 1 workers options → ⊥) → IsNoCommand line
no-make line plain options parted none = λ command is.
    let o = of-name command line (codes "make") parted.behind make is parted.words_are refl in
    let P : Command → Type 0 = λ c. Spells c line in
    let it : IsMakeWords o.0 o.1 line = subst P o.2 is in
    let same = same-arguments (codes "make") line parted.behind it.behind plain options (decimal o.0 ∷ []) it.options parted.words_are it.words_are parted.arguments it.arguments in
    let Q : List (List ℕ) → Type 0 = λ ws. IsNumberOption (codes "--workers=") 1 64 1 o.1 ws in
    none o.0 o.1 it.few same.plain_same (subst Q (sym same.options_same) it.workers_are)

pub no-serve : (line plain options : List (List ℕ)) → IsParted line (codes "serve") plain options
    → ((auction journals address : List ℕ) (doors sessions : ℕ) → plain ≡ auction ∷ journals ∷ address ∷ [] → IsNumberOption (codes "--doors=") 1 64 4 doors options → IsNumberOption (codes "--sessions=") 1 10000 1 sessions options → ⊥)
    → IsNoCommand line
no-serve line plain options parted none = λ command is.
    let o = of-name command line (codes "serve") parted.behind serve is parted.words_are refl in
    let P : Command → Type 0 = λ c. Spells c line in
    let s : Serving = o.2 in
    let it : IsServeWords o.0 o.1 s line = subst P o.3 is in
    let same = same-arguments (codes "serve") line parted.behind it.behind plain options (o.0 ∷ o.1 ∷ s.address ∷ []) it.options parted.words_are it.words_are parted.arguments it.arguments in
    let Q : List (List ℕ) → Type 0 = λ ws. IsNumberOption (codes "--doors=") 1 64 4 s.doors ws in
    let R : List (List ℕ) → Type 0 = λ ws. IsNumberOption (codes "--sessions=") 1 10000 1 s.sessions ws in
    none o.0 o.1 s.address s.doors s.sessions same.plain_same (subst Q (sym same.options_same) it.doors_are) (subst R (sym same.options_same) it.sessions_are)

pub no-bid : (line plain options : List (List ℕ)) → IsParted line (codes "bid") plain options
    → ((auction values token address : List ℕ) (bidder looks : ℕ) → IsRange 1 12 bidder → IsRange 1 64 (length token) → plain ≡ auction ∷ values ∷ decimal bidder ∷ token ∷ address ∷ [] → IsNumberOption (codes "--looks=") 1 1000000000 100000 looks options → ⊥)
    → IsNoCommand line
no-bid line plain options parted none = λ command is.
    let o = of-name command line (codes "bid") parted.behind bid is parted.words_are refl in
    let P : Command → Type 0 = λ c. Spells c line in
    let b : Bidding = o.2 in
    let it : IsBidWords o.0 o.1 b line = subst P o.3 is in
    let same = same-arguments (codes "bid") line parted.behind it.behind plain options (o.0 ∷ o.1 ∷ decimal b.bidder ∷ b.token ∷ b.address ∷ []) it.options parted.words_are it.words_are parted.arguments it.arguments in
    let Q : List (List ℕ) → Type 0 = λ ws. IsNumberOption (codes "--looks=") 1 1000000000 100000 b.looks ws in
    none o.0 o.1 b.token b.address b.bidder b.looks it.bidder_is it.token_is same.plain_same (subst Q (sym same.options_same) it.looks_are)

-- the words that five ids have are not those of a part in which the bidder or the token is none
pub no-part : (f : Found) (words : List (List ℕ)) (auction values token address : List ℕ) (bidder : ℕ) → AreNamed f bid_ids words → words ≡ auction ∷ values ∷ decimal bidder ∷ token ∷ address ∷ []
    → (first_value f (codes "BIDDER") ≡ Some (decimal bidder)) × (first_value f (codes "TOKEN") ≡ Some token)
no-part f words auction values token address bidder named are =
    let P : List (List ℕ) → Type 0 = λ ws. AreNamed f bid_ids ws in
    let n = subst P are named in
    (n.1.1.0, n.1.1.1.0)

pub one-plain : (f : Found) (id word other : List ℕ) (words : List (List ℕ)) → AreNamed f (id ∷ []) words → first_value f id ≡ Some word → words ≡ other ∷ [] → word ≡ other
one-plain f id word other words named is are =
    let P : List (List ℕ) → Type 0 = λ ws. AreNamed f (id ∷ []) ws in
    same-word (first_value f id) word other is (subst P are named).0

pub no-migrate : (f : Found) (word : List ℕ) (words : List (List ℕ)) → AreNamed f migrate_ids words → first_value f (codes "JOURNALS") ≡ Some word → first_value f (codes "TARGET") ≡ Some word → IsNoCommand (codes "migrate" ∷ words)
no-migrate f word words named journals target = λ command is.
    let o = of-name command (codes "migrate" ∷ words) (codes "migrate") words migrate is refl refl in
    let P : Command → Type 0 = λ c. Spells c (codes "migrate" ∷ words) in
    let it : IsMigrate o.0 o.1 o.2 o.3 (codes "migrate" ∷ words) = subst P o.4 is in
    let e : codes "migrate" ∷ words ≡ codes "migrate" ∷ o.0 ∷ o.1 ∷ o.2 ∷ o.3 ∷ [] = it.words_are in
    let w : words ≡ o.0 ∷ o.1 ∷ o.2 ∷ o.3 ∷ [] = cc in
    let Q : List (List ℕ) → Type 0 = λ ws. AreNamed f migrate_ids ws in
    let n = subst Q w named in
    it.apart (same-word (first_value f (codes "JOURNALS")) o.1 word n.1.0 journals ∙ same-word (first_value f (codes "TARGET")) word o.3 target n.1.1.1.0)
