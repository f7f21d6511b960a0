-- Words are one command at most. A row for each command, and none for two.
use Rattle.std.proofs.Common.{◌≡◌, ◌∙◌, ℕ, Bool, List, [], ◌∷◌, sym, ap, subst, arith, decimal}
use Rattle.std.proofs.lemmas.Fmt.{decimal_injective}
use Rattle.std.proofs.Props.{props}
use Rattle.lot_base.specs.Goods.{IsOpening, IsRange, IsSupply, zeros}
use Rattle.std.specs.Prelude.{codes}
use Rattle.lot_base.specs.declared.auction_terms.Terms.{Terms}
use Rattle.command_line.specs.Spellings.{IsBidWords, IsCheck, IsExplain, IsFloatWords, IsFold, IsJudgeWords, IsMakeWords, IsMigrate, IsServeWords, IsSettle, IsStanding, IsTrialWords}
use Rattle.command_line.specs.Commands.{Bid, Check, Command, Explain, Float, Fold, Judge, Make, Migrate, Serve, Settle, Spells, Standing, Trial}
use Rattle.command_line.specs.Arguments.{HasFlag}
use Rattle.command_line.specs.Parts.{Bidding, Serving}
use Rattle.command_line.proofs.CommandKinds.{same-kind}
use Rattle.command_line.proofs.Parting.{same-arguments}
use Rattle.command_line.proofs.OptionWords.{flag-once, same-number}
use Rattle.command_line.specs.Words.{comma_list}
use Rattle.command_line.proofs.Commas.{numbers-same, supply-numbers}

supply-one : (supply : List ℕ) (s r : IsSupply supply) → s ≡ r
supply-one supply = hlevel props

range-one : (low high n : ℕ) (s r : IsRange low high n) → s ≡ r
range-one low high n = hlevel props

opening-one : (supply : List ℕ) (ceiling : ℕ) (opening : List ℕ) (s r : IsOpening supply ceiling opening) → s ≡ r
opening-one supply ceiling opening = hlevel props

first-one : (version : ℕ) (goods opening : List ℕ) (s r : version ≡ 1 → opening ≡ zeros goods) → s ≡ r
first-one version goods opening = hlevel props

-- terms of the same numbers are the same
pub terms-same : (t u : Terms) → t.goods ≡ u.goods → t.bidders ≡ u.bidders → t.ceiling ≡ u.ceiling → t.version ≡ u.version → t.opening ≡ u.opening → t ≡ u
terms-same t u g b c v o =
    let F : List ℕ → ℕ → ℕ → ℕ → List ℕ → Type 0 = λ goods bidders ceiling version opening.
    (s : IsSupply goods) (r : IsRange 1 12 bidders) (q : IsRange 2 10000 ceiling) (w : IsRange 1 2 version) (p : IsOpening goods ceiling opening) (f : version ≡ 1 → opening ≡ zeros goods) → t ≡ record {
      goods = goods;
      bidders = bidders;
      ceiling = ceiling;
      version = version;
      opening = opening;
      supply = s;
      bidders_in_range = r;
      ceiling_in_range = q;
      version_in_range = w;
      opens = p;
      first_opens_at_zero = f;
    } in
    let start : F t.goods t.bidders t.ceiling t.version t.opening = λ s r q w p f i. record {
      goods = t.goods;
      bidders = t.bidders;
      ceiling = t.ceiling;
      version = t.version;
      opening = t.opening;
      supply = supply-one t.goods t.supply s i;
      bidders_in_range = range-one 1 12 t.bidders t.bidders_in_range r i;
      ceiling_in_range = range-one 2 10000 t.ceiling t.ceiling_in_range q i;
      version_in_range = range-one 1 2 t.version t.version_in_range w i;
      opens = opening-one t.goods t.ceiling t.opening t.opens p i;
      first_opens_at_zero = first-one t.version t.goods t.opening t.first_opens_at_zero f i;
    } in
    let same : F u.goods u.bidders u.ceiling u.version u.opening =
    subst (λ goods. F goods u.bidders u.ceiling u.version u.opening) g
    (subst (λ n. F t.goods n u.ceiling u.version u.opening) b
    (subst (λ n. F t.goods t.bidders n u.version u.opening) c
    (subst (λ n. F t.goods t.bidders t.ceiling n u.opening) v
    (subst (λ prices. F t.goods t.bidders t.ceiling t.version prices) o start)))) in
    same u.supply u.bidders_in_range u.ceiling_in_range u.version_in_range u.opens u.first_opens_at_zero

pub record SameWords (t u : Terms) (log name : List ℕ) : Type 0 where
  pub same_terms : t ≡ u
  pub same_log : log ≡ name

fold-once : (t u : Terms) (log name : List ℕ) (words : List (List ℕ)) → IsFold t log words → IsFold u name words → SameWords t u log name
fold-once t u log name words is it =
    let e : codes "fold" ∷ comma_list t.goods ∷ decimal t.bidders ∷ decimal t.ceiling ∷ log ∷ [] ≡ codes "fold" ∷ comma_list u.goods ∷ decimal u.bidders ∷ decimal u.ceiling ∷ name ∷ [] = sym is.words_are ∙ it.words_are in
    let g : comma_list t.goods ≡ comma_list u.goods = cc in
    let b : decimal t.bidders ≡ decimal u.bidders = cc in
    let c : decimal t.ceiling ≡ decimal u.ceiling = cc in
    let l : log ≡ name = cc in
    let goods = numbers-same 1 2047 t.goods u.goods (omega arith) (supply-numbers t.goods t.supply) (supply-numbers u.goods u.supply) g in
    record {
      same_terms = terms-same t u goods
          (decimal_injective t.bidders u.bidders (let r = t.bidders_in_range.at_most in omega arith) (let r = u.bidders_in_range.at_most in omega arith) b)
          (decimal_injective t.ceiling u.ceiling (let r = t.ceiling_in_range.at_most in omega arith) (let r = u.ceiling_in_range.at_most in omega arith) c)
          (is.version_is ∙ sym it.version_is)
          (t.first_opens_at_zero is.version_is ∙ ap zeros goods ∙ sym (u.first_opens_at_zero it.version_is));
      same_log = l;
    }

check-once : (one other : List ℕ) (words : List (List ℕ)) → IsCheck one words → IsCheck other words → one ≡ other
check-once one other words is it = let e : codes "check" ∷ one ∷ [] ≡ codes "check" ∷ other ∷ [] = sym is.words_are ∙ it.words_are in cc

standing-once : (one prefix other journals : List ℕ) (words : List (List ℕ)) → IsStanding one prefix words → IsStanding other journals words → Standing one prefix ≡ Standing other journals
standing-once one prefix other journals words is it =
    let e : codes "standing" ∷ one ∷ prefix ∷ [] ≡ codes "standing" ∷ other ∷ journals ∷ [] = sym is.words_are ∙ it.words_are in
    let a : one ≡ other = cc in
    let j : prefix ≡ journals = cc in
    λ i. Standing (a i) (j i)

explain-once : (one prefix other journals : List ℕ) (words : List (List ℕ)) → IsExplain one prefix words → IsExplain other journals words → Explain one prefix ≡ Explain other journals
explain-once one prefix other journals words is it =
    let e : codes "explain" ∷ one ∷ prefix ∷ [] ≡ codes "explain" ∷ other ∷ journals ∷ [] = sym is.words_are ∙ it.words_are in
    let a : one ≡ other = cc in
    let j : prefix ≡ journals = cc in
    λ i. Explain (a i) (j i)

judge-once : (one prefix other journals : List ℕ) (n m : ℕ) (words : List (List ℕ)) → IsJudgeWords one prefix n words → IsJudgeWords other journals m words → Judge one prefix n ≡ Judge other journals m
judge-once one prefix other journals n m words is it =
    let e : codes "judge" ∷ one ∷ prefix ∷ decimal n ∷ [] ≡ codes "judge" ∷ other ∷ journals ∷ decimal m ∷ [] = sym is.words_are ∙ it.words_are in
    let a : one ≡ other = cc in
    let j : prefix ≡ journals = cc in
    let d : decimal n ≡ decimal m = cc in
    let b : n ≡ m = decimal_injective n m (let f = is.bidder_is.at_most in omega arith) (let f = it.bidder_is.at_most in omega arith) d in
    λ i. Judge (a i) (j i) (b i)

settle-once : (one prefix other journals : List ℕ) (given json : Bool) (words : List (List ℕ)) → IsSettle one prefix given words → IsSettle other journals json words → Settle one prefix given ≡ Settle other journals json
settle-once one prefix other journals given json words is it =
    let same = same-arguments (codes "settle") words is.behind it.behind (one ∷ prefix ∷ []) is.options (other ∷ journals ∷ []) it.options is.words_are it.words_are is.arguments it.arguments in
    let p : one ∷ prefix ∷ [] ≡ other ∷ journals ∷ [] = same.plain_same in
    let a : one ≡ other = cc in
    let j : prefix ≡ journals = cc in
    let P : List (List ℕ) → Type 0 = λ options. HasFlag (codes "--json") options given in
    let g : given ≡ json = flag-once (codes "--json") it.options given json (subst P same.options_same is.json_is) it.json_is in
    λ i. Settle (a i) (j i) (g i)

trial-once : (one values other valuations : List ℕ) (n m : ℕ) (words : List (List ℕ)) → IsTrialWords one values n words → IsTrialWords other valuations m words → Trial one values n ≡ Trial other valuations m
trial-once one values other valuations n m words is it =
    let same = same-arguments (codes "trial") words is.behind it.behind (one ∷ values ∷ []) is.options (other ∷ valuations ∷ []) it.options is.words_are it.words_are is.arguments it.arguments in
    let p : one ∷ values ∷ [] ≡ other ∷ valuations ∷ [] = same.plain_same in
    let a : one ≡ other = cc in
    let v : values ≡ valuations = cc in
    let w : n ≡ m = same-number (codes "--workers=") 1 64 1 n m is.options it.options (omega arith) same.options_same is.workers_are it.workers_are in
    λ i. Trial (a i) (v i) (w i)

float-once : (one values other valuations start prices : List ℕ) (words : List (List ℕ)) → IsFloatWords one values start words → IsFloatWords other valuations prices words → Float one values start ≡ Float other valuations prices
float-once one values other valuations start prices words is it =
    let e : codes "float" ∷ one ∷ values ∷ comma_list start ∷ [] ≡ codes "float" ∷ other ∷ valuations ∷ comma_list prices ∷ [] = sym is.words_are ∙ it.words_are in
    let a : one ≡ other = cc in
    let v : values ≡ valuations = cc in
    let d : comma_list start ≡ comma_list prices = cc in
    let p : start ≡ prices = numbers-same 0 10000 start prices (omega arith) is.start_is it.start_is d in
    λ i. Float (a i) (v i) (p i)

make-once : (one other n m : ℕ) (words : List (List ℕ)) → IsMakeWords one n words → IsMakeWords other m words → Make one n ≡ Make other m
make-once one other n m words is it =
    let same = same-arguments (codes "make") words is.behind it.behind (decimal one ∷ []) is.options (decimal other ∷ []) it.options is.words_are it.words_are is.arguments it.arguments in
    let p : decimal one ∷ [] ≡ decimal other ∷ [] = same.plain_same in
    let d : decimal one ≡ decimal other = cc in
    let a : one ≡ other = decimal_injective one other (let f = is.few in omega arith) (let f = it.few in omega arith) d in
    let w : n ≡ m = same-number (codes "--workers=") 1 64 1 n m is.options it.options (omega arith) same.options_same is.workers_are it.workers_are in
    λ i. Make (a i) (w i)

serve-once : (one prefix other journals : List ℕ) (s t : Serving) (words : List (List ℕ)) → IsServeWords one prefix s words → IsServeWords other journals t words → Serve one prefix s ≡ Serve other journals t
serve-once one prefix other journals s t words is it =
    let same = same-arguments (codes "serve") words is.behind it.behind (one ∷ prefix ∷ s.address ∷ []) is.options (other ∷ journals ∷ t.address ∷ []) it.options is.words_are it.words_are is.arguments it.arguments in
    let p : one ∷ prefix ∷ s.address ∷ [] ≡ other ∷ journals ∷ t.address ∷ [] = same.plain_same in
    let a : one ≡ other = cc in
    let j : prefix ≡ journals = cc in
    let x : s.address ≡ t.address = cc in
    let d : s.doors ≡ t.doors = same-number (codes "--doors=") 1 64 4 s.doors t.doors is.options it.options (omega arith) same.options_same is.doors_are it.doors_are in
    let n : s.sessions ≡ t.sessions = same-number (codes "--sessions=") 1 10000 1 s.sessions t.sessions is.options it.options (omega arith) same.options_same is.sessions_are it.sessions_are in
    λ i. Serve (a i) (j i) (record { address = x i; doors = d i; sessions = n i })

bid-once : (one values other valuations : List ℕ) (b d : Bidding) (words : List (List ℕ)) → IsBidWords one values b words → IsBidWords other valuations d words → Bid one values b ≡ Bid other valuations d
bid-once one values other valuations b d words is it =
    let same = same-arguments (codes "bid") words is.behind it.behind (one ∷ values ∷ decimal b.bidder ∷ b.token ∷ b.address ∷ []) is.options (other ∷ valuations ∷ decimal d.bidder ∷ d.token ∷ d.address ∷ []) it.options
    is.words_are it.words_are is.arguments it.arguments in
    let p : one ∷ values ∷ decimal b.bidder ∷ b.token ∷ b.address ∷ [] ≡ other ∷ valuations ∷ decimal d.bidder ∷ d.token ∷ d.address ∷ [] = same.plain_same in
    let a : one ≡ other = cc in
    let v : values ≡ valuations = cc in
    let digits : decimal b.bidder ≡ decimal d.bidder = cc in
    let t : b.token ≡ d.token = cc in
    let x : b.address ≡ d.address = cc in
    let n : b.bidder ≡ d.bidder = decimal_injective b.bidder d.bidder (let f = is.bidder_is.at_most in omega arith) (let f = it.bidder_is.at_most in omega arith) digits in
    let l : b.looks ≡ d.looks = same-number (codes "--looks=") 1 1000000000 100000 b.looks d.looks is.options it.options (omega arith) same.options_same is.looks_are it.looks_are in
    λ i. Bid (a i) (v i) (record { bidder = n i; token = t i; address = x i; looks = l i })

migrate-once : (a b c d e f g h : List ℕ) (words : List (List ℕ)) → IsMigrate a b c d words → IsMigrate e f g h words → Migrate a b c d ≡ Migrate e f g h
migrate-once a b c d e f g h words is it =
    let same : codes "migrate" ∷ a ∷ b ∷ c ∷ d ∷ [] ≡ codes "migrate" ∷ e ∷ f ∷ g ∷ h ∷ [] = sym is.words_are ∙ it.words_are in
    let p : a ≡ e = cc in
    let q : b ≡ f = cc in
    let r : c ≡ g = cc in
    let s : d ≡ h = cc in
    λ i. Migrate (p i) (q i) (r i) (s i)

-- the words of one command are those of no other
pub spelled-once : (one other : Command) (words : List (List ℕ)) → Spells one words → Spells other words → one ≡ other
spelled-once (Fold terms log) other words is it =
    let o = same-kind (Fold terms log) other words is it in
    let P : Command → Type 0 = λ c. Spells c words in
    let same = fold-once terms o.0 log o.1 words is (subst P o.2 it) in
    (λ i. Fold (same.same_terms i) (same.same_log i)) ∙ sym o.2
spelled-once (Check auction) other words is it =
    let o = same-kind (Check auction) other words is it in
    let P : Command → Type 0 = λ c. Spells c words in
    ap Check (check-once auction o.0 words is (subst P o.1 it)) ∙ sym o.1
spelled-once (Standing auction journals) other words is it =
    let o = same-kind (Standing auction journals) other words is it in
    let P : Command → Type 0 = λ c. Spells c words in
    standing-once auction journals o.0 o.1 words is (subst P o.2 it) ∙ sym o.2
spelled-once (Explain auction journals) other words is it =
    let o = same-kind (Explain auction journals) other words is it in
    let P : Command → Type 0 = λ c. Spells c words in
    explain-once auction journals o.0 o.1 words is (subst P o.2 it) ∙ sym o.2
spelled-once (Judge auction journals bidder) other words is it =
    let o = same-kind (Judge auction journals bidder) other words is it in
    let P : Command → Type 0 = λ c. Spells c words in
    judge-once auction journals o.0 o.1 bidder o.2 words is (subst P o.3 it) ∙ sym o.3
spelled-once (Settle auction journals json) other words is it =
    let o = same-kind (Settle auction journals json) other words is it in
    let P : Command → Type 0 = λ c. Spells c words in
    settle-once auction journals o.0 o.1 json o.2 words is (subst P o.3 it) ∙ sym o.3
spelled-once (Trial auction values workers) other words is it =
    let o = same-kind (Trial auction values workers) other words is it in
    let P : Command → Type 0 = λ c. Spells c words in
    trial-once auction values o.0 o.1 workers o.2 words is (subst P o.3 it) ∙ sym o.3
spelled-once (Float auction values start) other words is it =
    let o = same-kind (Float auction values start) other words is it in
    let P : Command → Type 0 = λ c. Spells c words in
    float-once auction values o.0 o.1 start o.2 words is (subst P o.3 it) ∙ sym o.3
spelled-once (Make number workers) other words is it =
    let o = same-kind (Make number workers) other words is it in
    let P : Command → Type 0 = λ c. Spells c words in
    make-once number o.0 workers o.1 words is (subst P o.2 it) ∙ sym o.2
spelled-once (Serve auction journals s) other words is it =
    let o = same-kind (Serve auction journals s) other words is it in
    let P : Command → Type 0 = λ c. Spells c words in
    serve-once auction journals o.0 o.1 s o.2 words is (subst P o.3 it) ∙ sym o.3
spelled-once (Bid auction values b) other words is it =
    let o = same-kind (Bid auction values b) other words is it in
    let P : Command → Type 0 = λ c. Spells c words in
    bid-once auction values o.0 o.1 b o.2 words is (subst P o.3 it) ∙ sym o.3
spelled-once (Migrate old journals new target) other words is it =
    let o = same-kind (Migrate old journals new target) other words is it in
    let P : Command → Type 0 = λ c. Spells c words in
    migrate-once old journals new target o.0 o.1 o.2 o.3 words is (subst P o.4 it) ∙ sym o.4
