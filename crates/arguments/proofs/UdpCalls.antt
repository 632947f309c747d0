-- The arguments of the program on the network: what is found is meant, and what is meant is found.
use Rattle.std.proofs.Common.{◌≡◌, ◌≢◌, ℕ, ◌≤◌, Bool, true, false, eqb, cond, List, [], ◌∷◌, ◌++◌, length, Option, Some, None, Result, Ok, Err, refl, sym, ap, subst, ◌∙◌, inl, inr, arith}
use Rattle.std.specs.Prelude.{codes, decimal, bytes_eq, IfOk}
use Rattle.std.proofs.lemmas.Bool.{eqb-false, ne_eqb}
use Rattle.arguments.specs.declared.udp_arguments.UdpArguments.{UdpArguments}
use Rattle.arguments.specs.declared.udp_arguments.UdpNumbers.{UdpNumbers}
use Rattle.arguments.specs.declared.arguments.ArgumentsError.{ArgumentsError}
use Rattle.arguments.specs.declared.arguments.ArgumentsError.TheVariants as error
use Rattle.arguments.specs.Arguments.{zero_seed, IsSeed, IsStop}
use Rattle.arguments.specs.Values.{seed_bytes, between}
use Rattle.arguments.specs.UdpArguments.{IsFromOne, AreUdpArguments, AnswersUdpArguments}
use Rattle.arguments.specs.UdpReading.{port_of, read_numbers, with_numbers, udp_crew_at, udp_stop_at, udp_at, read_udp_arguments, GivesUdpArguments}
use Rattle.sip_text.specs.Reading.{◌>>=◌, plain_up_to}
use Rattle.sip_text.proofs.Pieces.{bind_some, some_is}
use Rattle.sip_text.proofs.PlainNumbers.{up_to_takes, up_to_again}
use Rattle.sip_text.proofs.Addresses.{decimal_lacks}
use Rattle.arguments.proofs.Flags.{same_text}
use Rattle.arguments.proofs.Values.{between_takes, between_again, seed_takes, seed_again}
use Rattle.arguments.proofs.Calls.{or_takes, some_length, no_flag}

-- ---- the numbers

port_takes : (w : List ℕ) (n : ℕ) → port_of w ≡ Some n → (w ≡ decimal n) × IsFromOne 65535 n
unfolding port_of
port_takes w n e =
    let p = bind_some (plain_up_to 65535 w) (λ m. cond {A = Option ℕ} (eqb m 0) None (Some m)) n e in
    let t = up_to_takes 65535 w p.0 p.1 in
    made p.0 t.0 t.2 (eqb p.0 0) refl p.2 where
      made : (m : ℕ) → w ≡ decimal m → m ≤ 65535 → (b : Bool) → eqb m 0 ≡ b → cond {A = Option ℕ} b None (Some m) ≡ Some n → (w ≡ decimal n) × IsFromOne 65535 n
      made m is le true zero_is e = absurd cc
      made m is le false some e =
          let same : m ≡ n = some_is m n e in
          let least : 1 ≤ m = omega (arith, eqb-false m 0 some) in
          (is ∙ ap decimal same, (rw (← same) least, rw (← same) le))

port_again : (n : ℕ) → IsFromOne 65535 n → port_of (decimal n) ≡ Some n
unfolding port_of
port_again n (least, le) = rw (up_to_again 65535 n le (omega arith), ne_eqb n 0 (λ e. omega (arith, e, least))) refl

record AreNumbers (port control_port workers count : List ℕ) (n : UdpNumbers) : Type 0 where
  port_is : port ≡ decimal n.port
  control_port_is : control_port ≡ decimal n.control_port
  workers_are : workers ≡ decimal n.workers
  count_is : count ≡ decimal n.count
  is_port : IsFromOne 65535 n.port
  is_control_port : IsFromOne 65535 n.control_port
  few_workers : IsFromOne 256 n.workers
  is_count : n.count ≤ 4294967295

numbers_take : (port control_port workers count : List ℕ) (n : UdpNumbers) → read_numbers port control_port workers count ≡ Some n → AreNumbers port control_port workers count n
unfolding read_numbers
numbers_take port control_port workers count n e =
    let a = bind_some (port_of port) (λ p. port_of control_port >>= λ c. between 1 256 workers >>= λ w. plain_up_to 4294967295 count >>= λ k. Some (the p c w k)) n e in
    let b = bind_some (port_of control_port) (λ c. between 1 256 workers >>= λ w. plain_up_to 4294967295 count >>= λ k. Some (the a.0 c w k)) n a.2 in
    let c = bind_some (between 1 256 workers) (λ w. plain_up_to 4294967295 count >>= λ k. Some (the a.0 b.0 w k)) n b.2 in
    let d = bind_some (plain_up_to 4294967295 count) (λ k. Some (the a.0 b.0 c.0 k)) n c.2 in
    let p = port_takes port a.0 a.1 in
    let q = port_takes control_port b.0 b.1 in
    let w = between_takes 1 256 workers c.0 c.1 in
    let k = up_to_takes 4294967295 count d.0 d.1 in
    subst (AreNumbers port control_port workers count) (some_is (the a.0 b.0 c.0 d.0) n d.2) (record {
      port_is = p.0;
      control_port_is = q.0;
      workers_are = w.0;
      count_is = k.0;
      is_port = p.1;
      is_control_port = q.1;
      few_workers = (w.1, w.2);
      is_count = k.2;
    }) where
      the : ℕ → ℕ → ℕ → ℕ → UdpNumbers
      the p c w k = record { port = p; control_port = c; workers = w; count = k }

numbers_again : (n : UdpNumbers) → IsFromOne 65535 n.port → IsFromOne 65535 n.control_port → IsFromOne 256 n.workers → n.count ≤ 4294967295
    → read_numbers (decimal n.port) (decimal n.control_port) (decimal n.workers) (decimal n.count) ≡ Some n
unfolding read_numbers
numbers_again n p c w k = rw (port_again n.port p, port_again n.control_port c, between_again 1 256 n.workers w.0 w.1 (omega arith), up_to_again 4294967295 n.count k (omega arith)) refl

-- ---- numbers and mailboxes

abbrev words_of : UdpArguments → List (List ℕ)
words_of a = decimal a.port ∷ decimal a.control_port ∷ decimal a.workers ∷ decimal a.count ∷ a.mailboxes

record AreInRange (a : UdpArguments) : Type 0 where
  is_port : IsFromOne 65535 a.port
  is_control_port : IsFromOne 65535 a.control_port
  few_workers : IsFromOne 256 a.workers
  is_count : a.count ≤ 4294967295
  some_mailbox : a.mailboxes ≢ []

record TakesCrew (seed : List ℕ) (stop : Bool) (words : List (List ℕ)) (a : UdpArguments) : Type 0 where
  seed_is : a.seed ≡ seed
  stop_is : a.stop ≡ stop
  in_range : AreInRange a
  whole : words ≡ words_of a

crew_takes : (seed : List ℕ) (stop : Bool) (words : List (List ℕ)) (a : UdpArguments) → udp_crew_at seed stop words ≡ Some a → TakesCrew seed stop words a
unfolding udp_crew_at
crew_takes seed stop [] a e = absurd cc
crew_takes seed stop (x ∷ []) a e = absurd cc
crew_takes seed stop (x ∷ y ∷ []) a e = absurd cc
crew_takes seed stop (x ∷ y ∷ z ∷ []) a e = absurd cc
crew_takes seed stop (port ∷ control_port ∷ workers ∷ count ∷ mailboxes) a e =
    let p = bind_some (read_numbers port control_port workers count) (λ n. cond {A = Option UdpArguments} (eqb (length mailboxes) 0) None (Some (with_numbers seed stop mailboxes n))) a e in
    made p.0 (numbers_take port control_port workers count p.0 p.1) (eqb (length mailboxes) 0) refl p.2 where
      made : (n : UdpNumbers) → AreNumbers port control_port workers count n → (b : Bool) → eqb (length mailboxes) 0 ≡ b
          → cond {A = Option UdpArguments} b None (Some (with_numbers seed stop mailboxes n)) ≡ Some a → TakesCrew seed stop (port ∷ control_port ∷ workers ∷ count ∷ mailboxes) a
      made n are true none e = absurd cc
      made n are false some e =
          subst (TakesCrew seed stop (port ∷ control_port ∷ workers ∷ count ∷ mailboxes)) (some_is (with_numbers seed stop mailboxes n) a e)
          (record {
            seed_is = refl;
            stop_is = refl;
            in_range = record {
              is_port = are.is_port;
              is_control_port = are.is_control_port;
              few_workers = are.few_workers;
              is_count = are.is_count;
              some_mailbox = λ nil. eqb-false (length mailboxes) 0 some (ap length nil);
            };
            whole =
                ap (λ (w : List ℕ). w ∷ control_port ∷ workers ∷ count ∷ mailboxes) are.port_is
                ∙ ap (λ (w : List ℕ). decimal n.port ∷ w ∷ workers ∷ count ∷ mailboxes) are.control_port_is
                ∙ ap (λ (w : List ℕ). decimal n.port ∷ decimal n.control_port ∷ w ∷ count ∷ mailboxes) are.workers_are
                ∙ ap (λ (w : List ℕ). decimal n.port ∷ decimal n.control_port ∷ decimal n.workers ∷ w ∷ mailboxes) are.count_is;
          })

crew_again : (a : UdpArguments) → AreInRange a → udp_crew_at a.seed a.stop (words_of a) ≡ Some a
unfolding udp_crew_at
crew_again a are =
    let n : UdpNumbers = record { port = a.port; control_port = a.control_port; workers = a.workers; count = a.count } in
    rw (numbers_again n are.is_port are.is_control_port are.few_workers are.is_count, some_length a.mailboxes are.some_mailbox) refl

-- ---- behind the seed

record TakesStop (seed : List ℕ) (words : List (List ℕ)) (a : UdpArguments) : Type 0 where
  seed_is : a.seed ≡ seed
  stop_words : List (List ℕ)
  is_stop : IsStop stop_words a.stop
  in_range : AreInRange a
  whole : words ≡ stop_words ++ words_of a

going_on : (seed : List ℕ) (words : List (List ℕ)) (a : UdpArguments) → udp_crew_at seed false words ≡ Some a → TakesStop seed words a
going_on seed words a e =
    let k = crew_takes seed false words a e in
    record { seed_is = k.seed_is; stop_words = []; is_stop = inl (refl, k.stop_is); in_range = k.in_range; whole = k.whole }

stop_takes : (seed : List ℕ) (words : List (List ℕ)) (a : UdpArguments) → udp_stop_at seed words ≡ Some a → TakesStop seed words a
unfolding udp_stop_at
stop_takes seed [] a e = going_on seed [] a e
stop_takes seed (flag ∷ words) a e =
    or_takes (bytes_eq flag (codes "--stop")) (udp_crew_at seed true words) (udp_crew_at seed false (flag ∷ words)) a e stopping (λ _ k. going_on seed (flag ∷ words) a k) where
      stopping : bytes_eq flag (codes "--stop") ≡ true → udp_crew_at seed true words ≡ Some a → TakesStop seed (flag ∷ words) a
      stopping same e =
          let k = crew_takes seed true words a e in
          record {
            seed_is = k.seed_is;
            stop_words = codes "--stop" ∷ [];
            is_stop = inr (refl, k.stop_is);
            in_range = k.in_range;
            whole = ap (λ (w : List ℕ). w ∷ words) (same_text flag (codes "--stop") same) ∙ ap (λ (l : List (List ℕ)). codes "--stop" ∷ l) k.whole;
          }

stop_again : (a : UdpArguments) (stop_words : List (List ℕ)) → IsStop stop_words a.stop → AreInRange a → udp_stop_at a.seed (stop_words ++ words_of a) ≡ Some a
unfolding udp_stop_at
stop_again a stop_words (inl none) are =
    let number : bytes_eq (decimal a.port) (codes "--stop") ≡ false = no_flag (decimal a.port) (codes "-stop") (decimal_lacks 45 a.port refl (omega arith)) in
    let crew : udp_crew_at a.seed false (words_of a) ≡ Some a = subst (λ (b : Bool). udp_crew_at a.seed b (words_of a) ≡ Some a) none.1 (crew_again a are) in
    rw (none.0, number) crew
stop_again a stop_words (inr given) are =
    let crew : udp_crew_at a.seed true (words_of a) ≡ Some a = subst (λ (b : Bool). udp_crew_at a.seed b (words_of a) ≡ Some a) given.1 (crew_again a are) in
    rw (given.0) crew

-- ---- behind the first word

record TakesUdp (words : List (List ℕ)) (a : UdpArguments) : Type 0 where
  seed_words : List (List ℕ)
  is_seed : IsSeed seed_words a.seed
  stop_words : List (List ℕ)
  is_stop : IsStop stop_words a.stop
  in_range : AreInRange a
  whole : words ≡ seed_words ++ (stop_words ++ words_of a)

with_zero : (words : List (List ℕ)) (a : UdpArguments) → udp_stop_at zero_seed words ≡ Some a → TakesUdp words a
with_zero words a e =
    let k = stop_takes zero_seed words a e in
    record { seed_words = []; is_seed = inl (refl, k.seed_is); stop_words = k.stop_words; is_stop = k.is_stop; in_range = k.in_range; whole = k.whole }

udp_takes : (words : List (List ℕ)) (a : UdpArguments) → udp_at words ≡ Some a → TakesUdp words a
unfolding udp_at
udp_takes [] a e = with_zero [] a e
udp_takes (word ∷ []) a e = with_zero (word ∷ []) a e
udp_takes (flag ∷ digits ∷ words) a e =
    or_takes (bytes_eq flag (codes "--seed")) (seed_bytes digits >>= λ seed. udp_stop_at seed words) (udp_stop_at zero_seed (flag ∷ digits ∷ words)) a e seeded (λ _ k. with_zero (flag ∷ digits ∷ words) a k) where
      seeded : bytes_eq flag (codes "--seed") ≡ true → (seed_bytes digits >>= λ seed. udp_stop_at seed words) ≡ Some a → TakesUdp (flag ∷ digits ∷ words) a
      seeded same e =
          let p = bind_some (seed_bytes digits) (λ seed. udp_stop_at seed words) a e in
          let k = stop_takes p.0 words a p.2 in
          record {
            seed_words = codes "--seed" ∷ digits ∷ [];
            is_seed = inr (digits, refl, seed_takes digits p.0 p.1 ∙ ap (λ (s : List ℕ). Ok s) (sym k.seed_is));
            stop_words = k.stop_words;
            is_stop = k.is_stop;
            in_range = k.in_range;
            whole = ap (λ (w : List ℕ). w ∷ digits ∷ words) (same_text flag (codes "--seed") same) ∙ ap (λ (l : List (List ℕ)). codes "--seed" ∷ digits ∷ l) k.whole;
          }

plain_again : (a : UdpArguments) (stop_words : List (List ℕ)) → IsStop stop_words a.stop → a.seed ≡ zero_seed → AreInRange a → udp_at (stop_words ++ words_of a) ≡ Some a
unfolding udp_at
plain_again a stop_words (inl none) seed are =
    let number : bytes_eq (decimal a.port) (codes "--seed") ≡ false = no_flag (decimal a.port) (codes "-seed") (decimal_lacks 45 a.port refl (omega arith)) in
    let rest : udp_stop_at zero_seed (words_of a) ≡ Some a =
    subst (λ (s : List ℕ). udp_stop_at s (words_of a) ≡ Some a) seed (stop_again a [] (inl (refl, none.1)) are) in
    rw (none.0, number) rest
plain_again a stop_words (inr given) seed are =
    let rest : udp_stop_at zero_seed (codes "--stop" ∷ words_of a) ≡ Some a =
    subst (λ (s : List ℕ). udp_stop_at s (codes "--stop" ∷ words_of a) ≡ Some a) seed (stop_again a (codes "--stop" ∷ []) (inr (refl, given.1)) are) in
    rw (given.0) rest

udp_again : (a : UdpArguments) (seed_words stop_words : List (List ℕ)) → IsSeed seed_words a.seed → IsStop stop_words a.stop → AreInRange a
    → udp_at (seed_words ++ (stop_words ++ words_of a)) ≡ Some a
unfolding udp_at
udp_again a seed_words stop_words (inl none) stop are = rw (none.0) (plain_again a stop_words stop none.1 are)
udp_again a seed_words stop_words (inr given) stop are = rw (given.1, seed_again given.0 a.seed given.2) (stop_again a stop_words stop are)

-- ---- all of it

pub udp_call_takes : (words : List (List ℕ)) (a : UdpArguments) → read_udp_arguments words ≡ Some a → AreUdpArguments words a
unfolding read_udp_arguments
udp_call_takes [] a e = absurd cc
udp_call_takes (program ∷ words) a e =
    or_takes (bytes_eq program (codes "udp")) (udp_at words) None a e (λ same k. called same (udp_takes words a k)) (λ _ k. absurd (nothing k)) where
      nothing : ◌≡◌ {A = Option UdpArguments} None (Some a) → ⊥
      nothing k = absurd cc

      called : bytes_eq program (codes "udp") ≡ true → TakesUdp words a → AreUdpArguments (program ∷ words) a
      called same k = record {
        seed_words = k.seed_words;
        is_seed = k.is_seed;
        stop_words = k.stop_words;
        is_stop = k.is_stop;
        is_port = k.in_range.is_port;
        is_control_port = k.in_range.is_control_port;
        few_workers = k.in_range.few_workers;
        is_count = let le = k.in_range.is_count in omega arith;
        some_mailbox = k.in_range.some_mailbox;
        whole = ap (λ (w : List ℕ). w ∷ words) (same_text program (codes "udp") same) ∙ ap (λ (l : List (List ℕ)). codes "udp" ∷ l) k.whole;
      }

pub udp_call_again : (words : List (List ℕ)) (a : UdpArguments) → AreUdpArguments words a → read_udp_arguments words ≡ Some a
unfolding read_udp_arguments
udp_call_again words a h =
    ap read_udp_arguments h.whole
    ∙ udp_again a h.seed_words h.stop_words h.is_seed h.is_stop (record {
      is_port = h.is_port;
      is_control_port = h.is_control_port;
      few_workers = h.few_workers;
      is_count = let lt = h.is_count in omega arith;
      some_mailbox = h.some_mailbox;
    })

pub udp_call_found : (r : Result UdpArguments ArgumentsError) (o : Option UdpArguments) (P : UdpArguments → Type 0) → GivesUdpArguments r o → ((a : UdpArguments) → o ≡ Some a → P a) → IfOk r P
udp_call_found (Ok a) o P g f = f a g
udp_call_found (Err e) o P g f = tt

pub udp_call_only : (r : Result UdpArguments ArgumentsError) (o : Option UdpArguments) (a : UdpArguments) → GivesUdpArguments r o → o ≡ Some a → AnswersUdpArguments r a
udp_call_only (Ok b) o a g e = some_is b a (sym g ∙ e)
udp_call_only (Err error.NoMemory) o a g e = tt
udp_call_only (Err error.Bad) o a g e = none_some o a g e where
  none_some : {A : Type 0} (p : Option A) (z : A) → p ≡ None → p ≡ Some z → ⊥
  none_some p z g e = absurd cc
