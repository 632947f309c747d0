-- A living transfer has come as far as the words of it say.
use Rattle.std.proofs.Common.{◌≡◌, ℕ, ◌+◌, List, [], ◌∷◌, ◌++◌, Option, Some, None, false, refl, sym, ◌∙◌, ap, subst}
use Rattle.std.specs.Prelude.{find, unwrap_or}
use Rattle.std.proofs.lemmas.List.Folds.{find-append}
use Rattle.package.specs.Content.{is_final}
use Rattle.package.specs.Run.{Status, last_status, trying}
use Rattle.notifier_model.specs.Limits.{Limits}
use Rattle.notifier_model.specs.Start.{Start}
use Rattle.notifier_model.specs.declared.event.Event.{Event}
use Rattle.life.specs.Past.{now}
use Rattle.life.specs.Life.{Deed, Life, Born, Then, Heard, MailChanged, Progressed, Due, Answered, Disowned, Lost, Stopped, status, is_gone}
use Rattle.life.specs.Lives.{lived, life}
use Rattle.life.specs.Sentences.{words, TransferLaw}
use Rattle.life.proofs.Deeds.{lived_is}
use Rattle.life.proofs.NextLives.{After, befell-born, each_life, life-next, birth_of_some, Ranges, ranges}
use Rattle.life.proofs.SoundLives.{sound_of}

last-of : (first s : Status) (ws : List Status) → last_status first (ws ++ s ∷ []) ≡ s
last-of first s [] = refl
last-of first s (w ∷ ws) = last-of w s ws

status-is : (l : Life) → status l ≡ last_status trying (words l)
unfolding status
status-is (Born t source r) = refl
status-is (Then t (Heard source r) l) = status-is l
status-is (Then t MailChanged l) = status-is l
status-is (Then t (Progressed p) l) = sym (last-of trying (p.code, p.reason) (words l))
status-is (Then t Due l) = status-is l
status-is (Then t (Answered n) l) = status-is l
status-is (Then t Disowned l) = status-is l
status-is (Then t Lost l) = status-is l
status-is (Then t Stopped l) = status-is l

-- no word of one that lives is final
abbrev Unfinished : Limits → Life → Type 0
Unfinished limits l = is_gone limits l ≡ false → find (λ (s : Status). is_final s.0) (words l) ≡ None

unfinished_then : (moment : ℕ) (deed : Deed) (l : Life) → find (λ (s : Status). is_final s.0) (words l) ≡ None → is_final (status (Then moment deed l)).0 ≡ false → find (λ (s : Status). is_final s.0) (words (Then moment deed l)) ≡ None
unfolding status
unfinished_then moment (Heard source r) l h f = h
unfinished_then moment MailChanged l h f = h
unfinished_then moment (Progressed p) l h f = find-append (λ (s : Status). is_final s.0) (words l) ((p.code, p.reason) ∷ []) ∙ rw (h, f) refl
unfinished_then moment Due l h f = h
unfinished_then moment (Answered n) l h f = h
unfinished_then moment Disowned l h f = h
unfinished_then moment Lost l h f = h
unfinished_then moment Stopped l h f = h

unfinished_on : (start : Start) (s : ℕ) (past : List Event) (e : Event) (l : Life) → Ranges start.place.limits → life start past s ≡ Some l → Unfinished start.place.limits l → is_gone start.place.limits l ≡ false → After (Unfinished start.place.limits) l (lived start s past e l)
unfinished_on start s past e l ok is h alive = lived_is start s past e l (λ o. After (λ m. is_gone start.place.limits m ≡ false → is_final (status m).0 ≡ false) l o → After (Unfinished start.place.limits) l o)
    (λ none. h) (λ deed none g. unfinished_then (now (e ∷ past)) deed l (h alive) (none g)) not_final
  where
    not_final : After (λ m. is_gone start.place.limits m ≡ false → is_final (status m).0 ≡ false) l (lived start s past e l)
    not_final = by_lived (lived start s past e l) refl
      where
        by_lived : (o : Option Life) → lived start s past e l ≡ o → After (λ m. is_gone start.place.limits m ≡ false → is_final (status m).0 ≡ false) l o
        by_lived None at = (sound_of start past s l ok is).unfinished
        by_lived (Some m) at = (sound_of start (e ∷ past) s m ok (life-next start past e s ∙ rw (befell-born start past e s l is, alive, at) refl)).unfinished

unfinished : (start : Start) (past : List Event) (s : ℕ) (l : Life) → Ranges start.place.limits → life start past s ≡ Some l → Unfinished start.place.limits l
unfinished start past s l ok is =
    each_life start (λ past s l. Unfinished start.place.limits l)
    (λ past e l begins. subst (Unfinished start.place.limits) (sym (birth_of_some start past e l begins).is) (λ g. refl))
    (λ past e s l at h alive. unfinished_on start s past e l ok at h alive)
    (λ past e s l h gone. h)
    past s l is

pub transfer_law : TransferLaw
transfer_law start past s l ok is alive =
    status-is l ∙ ap (λ (o : Option Status). unwrap_or o (last_status trying (words l))) (sym (unfinished start past s l (ranges start.place.limits ok.limits) is alive))
