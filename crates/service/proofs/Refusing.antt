-- What came while the service closed, and was refused so far.
use Rattle.std.proofs.Common.{◌≡◌, inl, inr, ◌⊎◌, ℕ, true, false, List, [], ◌∷◌, ◌++◌, Option, Some, None, refl, ap, sym, ◌∙◌, ⊎_elim}
use Rattle.std.specs.List.{filter}
use Rattle.std.proofs.lemmas.List.{append-nil}
use Rattle.std.proofs.lemmas.List.Elements.{filter-append}
use Rattle.transport.specs.declared.datagram.Datagram.{Datagram}
use Rattle.transport.specs.Wires.{Grows}
use Rattle.feeds.proofs.Telling.{grows_none, grows_more, grows_same}
use Rattle.control_lines.specs.declared.answer.ControlAnswer.TheVariants as answer
use Rattle.control_lines.specs.Lines.{answer_text}
use Rattle.service.specs.declared.lines.Handled.TheVariants as did
use Rattle.service.specs.Taken.{Hearing, Line, Replies, Offers, is_line, IsTurnedAway, AreTurnedAway}
use Rattle.service.proofs.Taking.{all_more, came_more, answered_more}

pub refusing_none : (hearing : Hearing) (given taken : Option (List Datagram)) (failures : ℕ) → AreTurnedAway hearing given given taken taken failures failures
refusing_none hearing given taken failures = record {
  came = [];
  gave = grows_none given;
  log = [];
  lines = refl;
  each = tt;
  answered = record { taken = grows_none taken; counted = refl };
}

one_line : (hearing : Hearing) (d : Datagram) → is_line hearing d ≡ true → filter (is_line hearing) (d ∷ []) ≡ d ∷ []
one_line hearing d is = rw is refl

no_line : (hearing : Hearing) (d : Datagram) → is_line hearing d ≡ false → filter (is_line hearing) (d ∷ []) ≡ []
no_line hearing d is = rw is refl

module _ {hearing : Hearing} {given given' taken taken' : Option (List Datagram)} {failures failures' : ℕ} (was : AreTurnedAway hearing given given' taken taken' failures failures')
    (after : Option (List Datagram)) (d : Datagram) (gave : Grows given' after (d ∷ [])) where
  pub refusing_blank : is_line hearing d ≡ false → AreTurnedAway hearing given after taken taken' failures failures'
  refusing_blank blank = record {
    came = was.came ++ d ∷ [];
    gave = grows_more given given' after was.came (d ∷ []) was.gave gave;
    log = was.log;
    lines = was.lines ∙ sym (filter-append (is_line hearing) was.came (d ∷ []) ∙ ap (λ l. filter (is_line hearing) was.came ++ l) (no_line hearing d blank) ∙ append-nil (filter (is_line hearing) was.came));
    each = was.each;
    answered = was.answered;
  }

  replied : (reply : Option (List ℕ)) (after' : Option (List Datagram)) (more : ℕ) → is_line hearing d ≡ true
      → (reply ≡ Some (answer_text answer.Closed)) ⊎ (reply ≡ None) → Replies true d.peer reply taken' after' failures' more → AreTurnedAway hearing given after taken after' failures more
  replied reply after' more is may replies =
      let line : Line = record { came = d; event = None; done = did.Answered answer.Closed; is_kept = false; reply = reply } in record {
        came = was.came ++ d ∷ [];
        gave = grows_more given given' after was.came (d ∷ []) was.gave gave;
        log = was.log ++ line ∷ [];
        lines = came_more was.log (line ∷ []) ∙ ap (λ l. l ++ d ∷ []) was.lines ∙ sym (filter-append (is_line hearing) was.came (d ∷ []) ∙ ap (λ l. filter (is_line hearing) was.came ++ l) (one_line hearing d is));
        each = all_more IsTurnedAway was.log (line ∷ []) was.each ((refl, may), tt);
        answered = answered_more was.log d None (did.Answered answer.Closed) false taken taken' after' failures failures' more was.answered reply replies;
      }

  pub refusing_more : (after' : Option (List Datagram)) (more : ℕ) → is_line hearing d ≡ true
      → Offers d.peer (answer_text answer.Closed) taken' after' failures' more → AreTurnedAway hearing given after taken after' failures more
  refusing_more after' more is offers =
      ⊎_elim (λ k. replied (Some (answer_text answer.Closed)) after' more is (inl refl) k) (λ k. replied None after' more is (inr refl) k) offers

pub refusing_silent : {hearing : Hearing} {given given' taken taken' : Option (List Datagram)} {failures failures' : ℕ} → AreTurnedAway hearing given given' taken taken' failures failures'
    → (after : Option (List Datagram)) → Grows given' after [] → AreTurnedAway hearing given after taken taken' failures failures'
refusing_silent {given = given} {given' = given'} was after none = record {
  came = was.came;
  gave = grows_same given given' after was.came was.gave none;
  log = was.log;
  lines = was.lines;
  each = was.each;
  answered = was.answered;
}
