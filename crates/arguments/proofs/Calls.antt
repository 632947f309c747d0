-- The program's arguments: what is found is meant, and what is meant is found.
use Rattle.std.proofs.Common.{◌≡◌, ◌≢◌, ℕ, ◌≤◌, Bool, true, false, eqb, cond, List, [], ◌∷◌, ◌++◌, length, Option, Some, None, Result, Ok, Err, refl, sym, ap, subst, ◌∙◌, inl, inr, arith}
use Rattle.std.specs.Prelude.{codes, decimal, bytes_eq, IfOk}
use Rattle.std.specs.List.{list_all}
use Rattle.std.proofs.lemmas.Bool.{eqb-false, ne_eqb}
use Rattle.arguments.specs.declared.arguments.Arguments.{Arguments}
use Rattle.arguments.specs.declared.arguments.ArgumentsError.{ArgumentsError}
use Rattle.arguments.specs.declared.arguments.ArgumentsError.TheVariants as error
use Rattle.arguments.specs.Arguments.{zero_seed, default_arguments, IsSeed, IsStop, IsScriptCall, AreArguments, AnswersArguments}
use Rattle.arguments.specs.ArgumentsReading.{crew_at, stop_at, script_at, read_arguments, GivesArguments}
use Rattle.sip_text.specs.Reading.{◌>>=◌, is_other}
use Rattle.sip_text.proofs.Cuts.{Lacks}
use Rattle.sip_text.proofs.Pieces.{bind_some, some_is, and_both}
use Rattle.sip_text.proofs.Addresses.{decimal_lacks}
use Rattle.arguments.specs.Values.{seed_bytes, between}
use Rattle.arguments.proofs.Values.{between_takes, between_again, seed_takes, seed_again}
use Rattle.arguments.proofs.Flags.{same_text}

pub or_takes : {A : Type 0} (b : Bool) (x other : Option A) (y : A) {P : Type 0} → cond b x other ≡ Some y → (b ≡ true → x ≡ Some y → P) → (b ≡ false → other ≡ Some y → P) → P
or_takes true x other y e f g = f refl e
or_takes false x other y e f g = g refl e

-- ---- workers and mailboxes

record TakesCrew (seed : List ℕ) (stop : Bool) (words : List (List ℕ)) (a : Arguments) : Type 0 where
  seed_is : a.seed ≡ seed
  stop_is : a.stop ≡ stop
  from_one : 1 ≤ a.workers
  to_256 : a.workers ≤ 256
  some_mailbox : a.mailboxes ≢ []
  whole : words ≡ decimal a.workers ∷ a.mailboxes

crew_takes : (seed : List ℕ) (stop : Bool) (words : List (List ℕ)) (a : Arguments) → crew_at seed stop words ≡ Some a → TakesCrew seed stop words a
unfolding crew_at
crew_takes seed stop [] a e = absurd cc
crew_takes seed stop (word ∷ mailboxes) a e =
    let p = bind_some (between 1 256 word) (λ n. cond {A = Option Arguments} (eqb (length mailboxes) 0) None (Some (record { seed = seed; stop = stop; workers = n; mailboxes = mailboxes }))) a e in
    let t = between_takes 1 256 word p.0 p.1 in
    made p.0 t.0 t.1 t.2 (eqb (length mailboxes) 0) refl p.2 where
      made : (n : ℕ) → word ≡ decimal n → 1 ≤ n → n ≤ 256 → (b : Bool) → eqb (length mailboxes) 0 ≡ b
          → cond {A = Option Arguments} b None (Some (record { seed = seed; stop = stop; workers = n; mailboxes = mailboxes })) ≡ Some a → TakesCrew seed stop (word ∷ mailboxes) a
      made n is least le true none e = absurd cc
      made n is least le false some e =
          subst (TakesCrew seed stop (word ∷ mailboxes)) (some_is (record { seed = seed; stop = stop; workers = n; mailboxes = mailboxes }) a e)
          (record { seed_is = refl; stop_is = refl; from_one = least; to_256 = le; some_mailbox = λ nil. eqb-false (length mailboxes) 0 some (ap length nil); whole = ap (λ (w : List ℕ). w ∷ mailboxes) is })

pub some_length : {A : Type 0} (xs : List A) → xs ≢ [] → eqb (length xs) 0 ≡ false
some_length [] h = absurd (h refl)
some_length (x ∷ xs) h = ne_eqb (length (x ∷ xs)) 0 (λ e. omega (arith, e))

crew_again : (a : Arguments) → 1 ≤ a.workers → a.workers ≤ 256 → a.mailboxes ≢ [] → crew_at a.seed a.stop (decimal a.workers ∷ a.mailboxes) ≡ Some a
unfolding crew_at
crew_again a least le some = rw (between_again 1 256 a.workers least le (omega arith), some_length a.mailboxes some) refl

-- ---- behind the seed

record TakesStop (seed : List ℕ) (words : List (List ℕ)) (a : Arguments) : Type 0 where
  seed_is : a.seed ≡ seed
  stop_words : List (List ℕ)
  is_stop : IsStop stop_words a.stop
  from_one : 1 ≤ a.workers
  to_256 : a.workers ≤ 256
  some_mailbox : a.mailboxes ≢ []
  whole : words ≡ stop_words ++ decimal a.workers ∷ a.mailboxes

going_on : (seed : List ℕ) (words : List (List ℕ)) (a : Arguments) → crew_at seed false words ≡ Some a → TakesStop seed words a
going_on seed words a e =
    let k = crew_takes seed false words a e in
    record { seed_is = k.seed_is; stop_words = []; is_stop = inl (refl, k.stop_is); from_one = k.from_one; to_256 = k.to_256; some_mailbox = k.some_mailbox; whole = k.whole }

stop_takes : (seed : List ℕ) (words : List (List ℕ)) (a : Arguments) → stop_at seed words ≡ Some a → TakesStop seed words a
unfolding stop_at
stop_takes seed [] a e = going_on seed [] a e
stop_takes seed (flag ∷ words) a e =
    or_takes (bytes_eq flag (codes "--stop")) (crew_at seed true words) (crew_at seed false (flag ∷ words)) a e stopping (λ _ k. going_on seed (flag ∷ words) a k) where
      stopping : bytes_eq flag (codes "--stop") ≡ true → crew_at seed true words ≡ Some a → TakesStop seed (flag ∷ words) a
      stopping same e =
          let k = crew_takes seed true words a e in
          record {
            seed_is = k.seed_is;
            stop_words = codes "--stop" ∷ [];
            is_stop = inr (refl, k.stop_is);
            from_one = k.from_one;
            to_256 = k.to_256;
            some_mailbox = k.some_mailbox;
            whole = ap (λ (w : List ℕ). w ∷ words) (same_text flag (codes "--stop") same) ∙ ap (λ (l : List (List ℕ)). codes "--stop" ∷ l) k.whole;
          }

-- a number is no flag
pub no_flag : (w rest : List ℕ) → Lacks 45 w → bytes_eq w (45 ∷ rest) ≡ false
no_flag [] rest h = refl
no_flag (x ∷ w) rest h = apart (eqb x 45) refl (and_both (is_other 45 x) (list_all (is_other 45) w) h).0 where
  apart : (b : Bool) → eqb x 45 ≡ b → is_other 45 x ≡ true → bytes_eq (x ∷ w) (45 ∷ rest) ≡ false
  apart true is e = absurd cc
  apart false is e = rw is refl

stop_again : (a : Arguments) (stop_words : List (List ℕ)) → IsStop stop_words a.stop → 1 ≤ a.workers → a.workers ≤ 256 → a.mailboxes ≢ []
    → stop_at a.seed (stop_words ++ decimal a.workers ∷ a.mailboxes) ≡ Some a
unfolding stop_at
stop_again a stop_words (inl none) least le some =
    let number : bytes_eq (decimal a.workers) (codes "--stop") ≡ false = no_flag (decimal a.workers) (codes "-stop") (decimal_lacks 45 a.workers refl (omega arith)) in
    let crew : crew_at a.seed false (decimal a.workers ∷ a.mailboxes) ≡ Some a = subst (λ (b : Bool). crew_at a.seed b (decimal a.workers ∷ a.mailboxes) ≡ Some a) none.1 (crew_again a least le some) in
    rw (none.0, number) crew
stop_again a stop_words (inr given) least le some =
    let crew : crew_at a.seed true (decimal a.workers ∷ a.mailboxes) ≡ Some a = subst (λ (b : Bool). crew_at a.seed b (decimal a.workers ∷ a.mailboxes) ≡ Some a) given.1 (crew_again a least le some) in
    rw (given.0) crew

-- ---- behind the first word

record TakesScript (words : List (List ℕ)) (a : Arguments) : Type 0 where
  seed_words : List (List ℕ)
  is_seed : IsSeed seed_words a.seed
  stop_words : List (List ℕ)
  is_stop : IsStop stop_words a.stop
  from_one : 1 ≤ a.workers
  to_256 : a.workers ≤ 256
  some_mailbox : a.mailboxes ≢ []
  whole : words ≡ seed_words ++ (stop_words ++ decimal a.workers ∷ a.mailboxes)

with_zero : (words : List (List ℕ)) (a : Arguments) → stop_at zero_seed words ≡ Some a → TakesScript words a
with_zero words a e =
    let k = stop_takes zero_seed words a e in
    record { seed_words = []; is_seed = inl (refl, k.seed_is); stop_words = k.stop_words; is_stop = k.is_stop; from_one = k.from_one; to_256 = k.to_256; some_mailbox = k.some_mailbox; whole = k.whole }

script_takes : (words : List (List ℕ)) (a : Arguments) → script_at words ≡ Some a → TakesScript words a
unfolding script_at
script_takes [] a e = with_zero [] a e
script_takes (word ∷ []) a e = with_zero (word ∷ []) a e
script_takes (flag ∷ digits ∷ words) a e =
    or_takes (bytes_eq flag (codes "--seed")) (seed_bytes digits >>= λ seed. stop_at seed words) (stop_at zero_seed (flag ∷ digits ∷ words)) a e seeded (λ _ k. with_zero (flag ∷ digits ∷ words) a k) where
      seeded : bytes_eq flag (codes "--seed") ≡ true → (seed_bytes digits >>= λ seed. stop_at seed words) ≡ Some a → TakesScript (flag ∷ digits ∷ words) a
      seeded same e =
          let p = bind_some (seed_bytes digits) (λ seed. stop_at seed words) a e in
          let k = stop_takes p.0 words a p.2 in
          record {
            seed_words = codes "--seed" ∷ digits ∷ [];
            is_seed = inr (digits, refl, seed_takes digits p.0 p.1 ∙ ap (λ (s : List ℕ). Ok s) (sym k.seed_is));
            stop_words = k.stop_words;
            is_stop = k.is_stop;
            from_one = k.from_one;
            to_256 = k.to_256;
            some_mailbox = k.some_mailbox;
            whole = ap (λ (w : List ℕ). w ∷ digits ∷ words) (same_text flag (codes "--seed") same) ∙ ap (λ (l : List (List ℕ)). codes "--seed" ∷ digits ∷ l) k.whole;
          }

plain_again : (a : Arguments) (mailboxes : List (List ℕ)) (stop_words : List (List ℕ)) → a.mailboxes ≡ mailboxes → IsStop stop_words a.stop → a.seed ≡ zero_seed
    → 1 ≤ a.workers → a.workers ≤ 256 → a.mailboxes ≢ [] → script_at (stop_words ++ decimal a.workers ∷ mailboxes) ≡ Some a
unfolding script_at
plain_again a [] stop_words is stop seed least le some = absurd (some is)
plain_again a (m ∷ ms) stop_words is (inl none) seed least le some =
    let number : bytes_eq (decimal a.workers) (codes "--seed") ≡ false = no_flag (decimal a.workers) (codes "-seed") (decimal_lacks 45 a.workers refl (omega arith)) in
    let rest : stop_at zero_seed (decimal a.workers ∷ m ∷ ms) ≡ Some a =
    subst (λ (s : List ℕ). stop_at s (decimal a.workers ∷ m ∷ ms) ≡ Some a) seed (subst (λ (l : List (List ℕ)). stop_at a.seed (decimal a.workers ∷ l) ≡ Some a) is (stop_again a [] (inl (refl, none.1)) least le some)) in
    rw (none.0, number) rest
plain_again a (m ∷ ms) stop_words is (inr given) seed least le some =
    let rest : stop_at zero_seed (codes "--stop" ∷ decimal a.workers ∷ m ∷ ms) ≡ Some a =
    subst (λ (s : List ℕ). stop_at s (codes "--stop" ∷ decimal a.workers ∷ m ∷ ms) ≡ Some a) seed
    (subst (λ (l : List (List ℕ)). stop_at a.seed (codes "--stop" ∷ decimal a.workers ∷ l) ≡ Some a) is (stop_again a (codes "--stop" ∷ []) (inr (refl, given.1)) least le some)) in
    rw (given.0) rest

script_again : (a : Arguments) (seed_words stop_words : List (List ℕ)) → IsSeed seed_words a.seed → IsStop stop_words a.stop → 1 ≤ a.workers → a.workers ≤ 256 → a.mailboxes ≢ []
    → script_at (seed_words ++ (stop_words ++ decimal a.workers ∷ a.mailboxes)) ≡ Some a
unfolding script_at
script_again a seed_words stop_words (inl none) stop least le some = rw (none.0) (plain_again a a.mailboxes stop_words refl stop none.1 least le some)
script_again a seed_words stop_words (inr given) stop least le some =
    rw (given.1, seed_again given.0 a.seed given.2) (stop_again a stop_words stop least le some)

-- ---- all of it

pub call_takes : (words : List (List ℕ)) (a : Arguments) → read_arguments words ≡ Some a → AreArguments words a
unfolding read_arguments
call_takes [] a e = inl (refl, sym (some_is default_arguments a e))
call_takes (program ∷ words) a e =
    or_takes (bytes_eq program (codes "script")) (script_at words) None a e (λ same k. inr (called same (script_takes words a k))) (λ _ k. absurd (nothing k)) where
      nothing : ◌≡◌ {A = Option Arguments} None (Some a) → ⊥
      nothing k = absurd cc

      called : bytes_eq program (codes "script") ≡ true → TakesScript words a → IsScriptCall (program ∷ words) a
      called same k = record {
        seed_words = k.seed_words;
        is_seed = k.is_seed;
        stop_words = k.stop_words;
        is_stop = k.is_stop;
        from_one = k.from_one;
        to_256 = k.to_256;
        some_mailbox = k.some_mailbox;
        whole = ap (λ (w : List ℕ). w ∷ words) (same_text program (codes "script") same) ∙ ap (λ (l : List (List ℕ)). codes "script" ∷ l) k.whole;
      }

pub call_again : (words : List (List ℕ)) (a : Arguments) → AreArguments words a → read_arguments words ≡ Some a
unfolding read_arguments
call_again words a (inl none) = rw (none.0, none.1) refl
call_again words a (inr h) = ap read_arguments h.whole ∙ script_again a h.seed_words h.stop_words h.is_seed h.is_stop h.from_one h.to_256 h.some_mailbox

pub call_found : (r : Result Arguments ArgumentsError) (o : Option Arguments) (P : Arguments → Type 0) → GivesArguments r o → ((a : Arguments) → o ≡ Some a → P a) → IfOk r P
call_found (Ok a) o P g f = f a g
call_found (Err e) o P g f = tt

pub call_only : (r : Result Arguments ArgumentsError) (o : Option Arguments) (a : Arguments) → GivesArguments r o → o ≡ Some a → AnswersArguments r a
call_only (Ok b) o a g e = some_is b a (sym g ∙ e)
call_only (Err error.NoMemory) o a g e = tt
call_only (Err error.Bad) o a g e = none_some o a g e where
  none_some : {A : Type 0} (p : Option A) (z : A) → p ≡ None → p ≡ Some z → ⊥
  none_some p z g e = absurd cc
