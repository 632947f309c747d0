-- Whole runs of calls, worked out by computing.
use Rattle.std.specs.Prelude.{refl, ◌≡◌, ℕ, Bool, true, false, List, [], ◌∷◌, ◌++◌, map, Option, Some, None, codes}
use Rattle.sip_text.specs.declared.address.Addr.{Addr}
use Rattle.notifier_model.specs.declared.event.Out.TheVariants as out
use Rattle.first_contact.specs.declared.contact.Notice.{Notice}
use Rattle.first_contact.specs.Steps.{ContactSeen, Step, waiting}
use Rattle.first_contact.specs.Runs.{Call, Offer, Answer, GiveUp, Close, known_after, through, lost}

-- ---- who sends, and where NOTIFYs go

abbrev addr : ℕ → ℕ → Addr
addr last port = record { ip = 192 ∷ 0 ∷ 2 ∷ last ∷ []; port = port }

-- the phone, the same behind another port, and somebody else
abbrev phone : Addr
phone = addr 7 5060

abbrev other_port : Addr
other_port = addr 7 62001

abbrev elsewhere : Addr
elsewhere = addr 9 5060

abbrev d : List ℕ
d = codes "d"

-- a NOTIFY to the phone; what is sent plays no part
abbrev notify : ℕ → Notice
notify number = record { number = number; to = phone; is_last = false; out = out.Answer phone [] }

abbrev offered : ℕ → Call
offered number = Offer d (record { begins = true; first_waits = true; more_wait = true }) (notify number)

abbrev answer : ℕ → Addr → Call
answer number source = Answer d number 200 source

abbrev numbers : List Notice → List ℕ
numbers notices = map (λ (n : Notice). n.number) notices

abbrev sent : List Call → List ℕ
sent calls = numbers (through d calls None)

abbrev left : List Call → List ℕ
left calls = numbers (waiting (known_after d calls None))

-- ---- three NOTIFYs

abbrev three : List Call
three = offered 1 ∷ offered 2 ∷ offered 3 ∷ []

nobody_answers : sent three ≡ 1 ∷ []
nobody_answers = refl

the_phone_answers : sent (three ++ answer 1 phone ∷ offered 4 ∷ []) ≡ 1 ∷ 2 ∷ 3 ∷ 4 ∷ []
the_phone_answers = refl

it_answers_by_another_port : sent (three ++ answer 1 other_port ∷ offered 4 ∷ []) ≡ 1 ∷ 2 ∷ 3 ∷ 4 ∷ []
it_answers_by_another_port = refl

-- one goes out for each answer from elsewhere
somebody_else_answers : sent (three ++ answer 1 elsewhere ∷ []) ≡ 1 ∷ 2 ∷ []
somebody_else_answers = refl

two_answers : sent (three ++ answer 1 elsewhere ∷ answer 2 elsewhere ∷ []) ≡ 1 ∷ 2 ∷ 3 ∷ []
two_answers = refl

-- one that comes again, or to another NOTIFY than the one under way, draws none
it_answers_again : sent (three ++ answer 1 elsewhere ∷ answer 1 elsewhere ∷ answer 3 elsewhere ∷ []) ≡ 1 ∷ 2 ∷ []
it_answers_again = refl

its_rest_waits : left (three ++ answer 1 elsewhere ∷ []) ≡ 3 ∷ []
its_rest_waits = refl

-- where none waits the next one is the first again
all_are_answered : sent (three ++ answer 1 elsewhere ∷ answer 2 elsewhere ∷ answer 3 elsewhere ∷ offered 4 ∷ offered 5 ∷ []) ≡ 1 ∷ 2 ∷ 3 ∷ 4 ∷ []
all_are_answered = refl

-- the phone answers one that an answer from elsewhere let through
then_the_phone_answers : sent (three ++ answer 1 elsewhere ∷ answer 2 phone ∷ offered 4 ∷ []) ≡ 1 ∷ 2 ∷ 3 ∷ 4 ∷ []
then_the_phone_answers = refl

-- who has answered needn't answer from there again
it_has_answered : sent (offered 1 ∷ answer 1 phone ∷ offered 2 ∷ answer 2 elsewhere ∷ offered 3 ∷ offered 4 ∷ []) ≡ 1 ∷ 2 ∷ 3 ∷ 4 ∷ []
it_has_answered = refl

-- what waits is dropped where the one under way is given up
it_is_given_up : left (three ++ answer 1 elsewhere ∷ GiveUp d 2 ∷ []) ≡ []
it_is_given_up = refl

it_is_dropped : numbers (lost d (three ++ answer 1 elsewhere ∷ GiveUp d 2 ∷ []) None) ≡ 3 ∷ []
it_is_dropped = refl
