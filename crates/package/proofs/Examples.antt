-- Worked examples of the definitions, by computing.
use Rattle.std.specs.Prelude.{◌≡◌, ℕ, refl, List, [], ◌∷◌, ◌++◌, length, Option, None, Some, codes}
use Rattle.std.specs.Fmt.{digits}
use Rattle.package.specs.declared.counts.Class.TheVariants.{Voice, Fax, Text}
use Rattle.package.specs.declared.counts.Class.{Class}
use Rattle.package.specs.declared.change.Change.{Change}
use Rattle.package.specs.declared.change.Change.TheVariants.{Mail, Begin, Step, Forget}
use Rattle.package.specs.Content.{Content, OfStatus}
use Rattle.package.specs.Changes.{unset}
use Rattle.package.specs.Bodies.{crlf, mail_body, status_body}
use Rattle.package.specs.Run.{mail_after, transfer_after}

abbrev lines : List (List ℕ) → List ℕ
lines [] = []
lines (line ∷ more) = line ++ (crlf ++ lines more)

abbrev mail : List ℕ → Class → ℕ → ℕ → ℕ → ℕ → Change
mail mailbox class new_count old_count urgent_new urgent_old = Mail (record {
  mailbox = mailbox;
  class = class;
  counts = record { new_count = new_count; old_count = old_count; urgent_new = urgent_new; urgent_old = urgent_old };
})

abbrev told : List ℕ → ℕ → List ℕ → Change
told tag code reason = Step (record { tag = tag; code = code; reason = reason })

abbrev alice_mail : List Change
alice_mail =
    mail (codes "alice") Voice 1 0 0 0 ∷ mail (codes "bob") Voice 7 7 7 7 ∷ mail (codes "alice") Fax 1 0 0 0
    ∷ mail (codes "alice") Voice 2 8 0 2 ∷ Begin (codes "alice") ∷ []

-- no class was set: 22 bytes
no_mail : mail_body unset ≡ lines (codes "Messages-Waiting: no" ∷ [])
no_mail = refl

-- of each class the last counts
some_mail : mail_body (mail_after (codes "alice") unset alice_mail)
    ≡ lines (codes "Messages-Waiting: yes" ∷ codes "Voice-Message: 2/8 (0/2)" ∷ codes "Fax-Message: 1/0 (0/0)" ∷ [])
unfolding digits
some_mail = refl

some_mail_length : length (mail_body (mail_after (codes "alice") unset alice_mail)) ≡ 73
unfolding digits
some_mail_length = refl

-- old messages alone don't wait
old_mail : mail_body (mail_after (codes "alice") unset (mail (codes "alice") Text 0 3 0 1 ∷ []))
    ≡ lines (codes "Messages-Waiting: no" ∷ codes "Text-Message: 0/3 (0/1)" ∷ [])
unfolding digits
old_mail = refl

abbrev transfer : List Change → Option Content
transfer changes = transfer_after (codes "x") None changes

-- a transfer is born by its Begin, not by a progress
unborn : transfer (told (codes "x") 180 (codes "Ringing") ∷ Begin (codes "y") ∷ []) ≡ None
unborn = refl

born : transfer (told (codes "x") 180 (codes "Ringing") ∷ Begin (codes "x") ∷ []) ≡ Some (OfStatus 100 (codes "Trying"))
born = refl

-- the last progress since, and the first final one stays
ringing : transfer (Begin (codes "x") ∷ told (codes "x") 180 (codes "Ringing") ∷ told (codes "y") 200 (codes "OK") ∷ Begin (codes "x") ∷ [])
    ≡ Some (OfStatus 180 (codes "Ringing"))
ringing = refl

finished : transfer (Begin (codes "x") ∷ told (codes "x") 200 (codes "OK") ∷ told (codes "x") 486 (codes "Busy Here") ∷ [])
    ≡ Some (OfStatus 200 (codes "OK"))
finished = refl

-- what came before the last Forget counts for nothing
forgotten : transfer (Begin (codes "x") ∷ told (codes "x") 200 (codes "OK") ∷ Forget (codes "x") ∷ []) ≡ None
forgotten = refl

again : transfer (Begin (codes "x") ∷ told (codes "x") 200 (codes "OK") ∷ Forget (codes "x") ∷ Begin (codes "x") ∷ [])
    ≡ Some (OfStatus 100 (codes "Trying"))
again = refl

ringing_body : status_body 180 (codes "Ringing") ≡ codes "SIP/2.0 180 Ringing" ++ crlf
unfolding digits
ringing_body = refl
