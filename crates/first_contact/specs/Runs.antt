-- Whole runs of calls, and what becomes of the NOTIFYs of one dialog.
use Rattle.std.specs.Prelude.{◌≡◌, ◌⊎◌, ℕ, ◌+◌, ◌≤◌, Bool, true, false, not, ◌&&◌, ◌||◌, ◌==◌, nat_le, Option, Some, None, List, [], ◌∷◌, ◌++◌, length, bytes_eq, if◌then◌else◌}
use Rattle.std.specs.List.{filter, AllByRecursion, Contains}
use Rattle.sip_text.specs.declared.address.Addr.{Addr}
use Rattle.first_contact.specs.declared.contact.Notice.{Notice}
use Rattle.first_contact.specs.declared.contact.Room.{Room}
use Rattle.first_contact.specs.declared.contact.TheConstants.{FINAL, GONE}
use Rattle.first_contact.specs.Steps.{ContactSeen, Step, waiting, idle, same_addr, is_from, offered, answered, given_up, ended, is_told}

pub data Call : Type 0 where
  -- a NOTIFY of the dialog with this tag was offered, where there was so much room
  Offer : (tag : List ℕ) (room : Room) (n : Notice) → Call
  Answer : (tag : List ℕ) (number status : ℕ) (source : Addr) → Call
  GiveUp : (tag : List ℕ) (number : ℕ) → Call
  Close : (tag : List ℕ) → Call
  -- a final answer came from this address, which opens nothing, and memory for the next one that waits was wanting
  Forget : (tag : List ℕ) (source : Addr) → Call

abbrev pub tag_of : Call → List ℕ
tag_of (Offer tag room n) = tag
tag_of (Answer tag number status source) = tag
tag_of (GiveUp tag number) = tag
tag_of (Close tag) = tag
tag_of (Forget tag source) = tag

-- what a call does to its dialog
abbrev pub step_of : Call → Option ContactSeen → Step
step_of (Offer tag room n) c = offered room n c
step_of (Answer tag number status source) c = answered number status source c
step_of (GiveUp tag number) c = given_up number c
step_of (Close tag) c = ended c
step_of (Forget tag source) c = ended c

-- what it does to the dialog with this tag: nothing, where that is another one
abbrev pub step_at : List ℕ → Call → Option ContactSeen → Step
step_at tag call c = if bytes_eq (tag_of call) tag then step_of call c else idle c

-- what is known of the dialog after these calls
abbrev pub known_after : List ℕ → List Call → Option ContactSeen → Option ContactSeen
known_after tag [] c = c
known_after tag (call ∷ calls) c = known_after tag calls (step_at tag call c).contact

-- its NOTIFYs that these calls let through, in order
abbrev pub through : List ℕ → List Call → Option ContactSeen → List Notice
through tag [] c = []
through tag (call ∷ calls) c = (step_at tag call c).through ++ through tag calls (step_at tag call c).contact

-- its NOTIFYs that these calls drop, in order
abbrev pub lost : List ℕ → List Call → Option ContactSeen → List Notice
lost tag [] c = []
lost tag (call ∷ calls) c = (step_at tag call c).lost ++ lost tag calls (step_at tag call c).contact

abbrev pub offer_of : Call → List Notice
offer_of (Offer tag room n) = n ∷ []
offer_of (Answer tag number status source) = []
offer_of (GiveUp tag number) = []
offer_of (Close tag) = []
offer_of (Forget tag source) = []

abbrev pub offer_at : List ℕ → Call → List Notice
offer_at tag call = if bytes_eq (tag_of call) tag then offer_of call else []

-- its NOTIFYs that were offered, in order
abbrev pub offers : List ℕ → List Call → List Notice
offers tag [] = []
offers tag (call ∷ calls) = offer_at tag call ++ offers tag calls

-- ---- in order, and each once

-- the first list is the second with some left out
abbrev pub IsPart : List Notice → List Notice → Type 0
IsPart xs [] = xs ≡ []
IsPart xs (y ∷ ys) = IsPart xs ys ⊎ ((rest : List Notice) × (xs ≡ y ∷ rest) × IsPart rest ys)

-- What is let through was offered, and is let through in the order in which it was offered, each once.
abbrev pub EachInOrder : Type 0
EachInOrder = (tag : List ℕ) (calls : List Call) → IsPart (through tag calls None) (offers tag calls)

-- the call ends the dialog: a give-up that tells of its address, a 481, want of memory at an answer, or its subscription is gone
abbrev pub ends_it : Call → Option ContactSeen → Bool
ends_it (Offer tag room n) c = false
ends_it (Answer tag number status source) c = status == GONE
ends_it (GiveUp tag number) c = is_told number c
ends_it (Close tag) c = true
ends_it (Forget tag source) c = true

-- What is let through after the end of the dialog was offered after it: what waited then is dropped at that moment.
abbrev pub NoneAfterItsEnd : Type 0
NoneAfterItsEnd = (tag : List ℕ) (before since : List Call) (end : Call) → bytes_eq (tag_of end) tag ≡ true → ends_it end (known_after tag before None) ≡ true
    → IsPart (through tag since (step_at tag end (known_after tag before None)).contact) (offers tag since)

-- ---- one at most before the first answer

-- no answer of this address is known
abbrev pub IsUnanswered : Addr → Option ContactSeen → Type 0
IsUnanswered to None = Unit {0}
IsUnanswered to (Some c) = (same_addr c.to to ≡ false) ⊎ (c.is_known ≡ false)

-- A call is neither a final answer of this address to the dialog, nor an end of the dialog (but by an answer from elsewhere), nor an offer to
-- another address, nor one where no dialog may begin.
abbrev pub is_silent_of : Addr → Call → Bool
is_silent_of to (Offer tag room n) = room.begins && same_addr n.to to
is_silent_of to (Answer tag number status source) = not (nat_le FINAL status) || not (is_from source to)
is_silent_of to (GiveUp tag number) = false
is_silent_of to (Close tag) = false
is_silent_of to (Forget tag source) = not (is_from source to)

abbrev pub is_silent : List ℕ → Addr → Call → Bool
is_silent tag to call = not (bytes_eq (tag_of call) tag) || is_silent_of to call

-- a call is a final answer
abbrev pub is_final : Call → Bool
is_final (Offer tag room n) = false
is_final (Answer tag number status source) = nat_le FINAL status
is_final (GiveUp tag number) = false
is_final (Close tag) = false
is_final (Forget tag source) = true

-- the final answers to the dialog
abbrev pub answers : List ℕ → List Call → List Call
answers tag calls = filter (λ call. bytes_eq (tag_of call) tag && is_final call) calls

-- those that go to this address
abbrev pub sent_to : Addr → List Notice → List Notice
sent_to to notices = filter (λ (n : Notice). same_addr n.to to) notices

-- As long as no answer of an address is known, whatever is offered to it: one NOTIFY of the dialog at most is let through to it, and one more for
-- each answer that comes from elsewhere.
abbrev pub OneAtMost : Type 0
OneAtMost = (tag : List ℕ) (to : Addr) (before since : List Call) → IsUnanswered to (known_after tag before None)
    → AllByRecursion (λ call. is_silent tag to call ≡ true) since
    → length (sent_to to (through tag since (known_after tag before None))) ≤ 1 + length (answers tag since)

-- ---- none vanishes

-- Each NOTIFY that was offered was let through, or dropped, or waits.
abbrev pub NoneVanishes : Type 0
NoneVanishes = (tag : List ℕ) (calls : List Call)
    → length (through tag calls None) + length (lost tag calls None) + length (waiting (known_after tag calls None)) ≡ length (offers tag calls)

-- ---- an address is known by its answer alone

-- A NOTIFY of the dialog was let through to this address, and since then came a final answer to it, from there, that does not say that the
-- dialog is gone.
pub record IsAnswered (tag : List ℕ) (to : Addr) (calls : List Call) : Type 0 where
  pub earlier : List Call
  pub since : List Call
  pub named : List ℕ
  pub number : ℕ
  pub status : ℕ
  pub source : Addr
  pub split : calls ≡ earlier ++ Answer named number status source ∷ since
  pub ours : bytes_eq named tag ≡ true
  pub final : nat_le FINAL status ≡ true
  pub alive : (status == GONE) ≡ false
  pub notify : Notice
  pub was_through : Contains (through tag earlier None) notify
  pub numbered : notify.number ≡ number
  pub went_there : notify.to ≡ to
  pub came_from_there : is_from source to ≡ true

abbrev pub KnownIsAnswered : Type 0
KnownIsAnswered = (tag : List ℕ) (calls : List Call) (c : ContactSeen) → known_after tag calls None ≡ Some c → c.is_known ≡ true → IsAnswered tag c.to calls
