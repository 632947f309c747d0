-- Runs with one line more.
use Rattle.std.proofs.Common.{◌≡◌, inl, inr, Bool, true, false, List, [], ◌∷◌, ◌++◌, Option, Some, None, refl, sym, ap, subst, ◌∙◌}
use Rattle.std.specs.Prelude.{◌||◌, MatchOption}
use Rattle.std.specs.Io.KnownBytes.{IsAtEnd}
use Rattle.sip_text.proofs.Pieces.{some_is}
use Rattle.telling.specs.declared.hearing.Heard.TheVariants as heard
use Rattle.telling.specs.declared.end.Fate.{Fate}
use Rattle.telling.specs.declared.end.Fate.TheVariants as fate
use Rattle.telling.specs.declared.end.LinesEnd.{LinesEnd}
use Rattle.telling.specs.declared.end.LinesEnd.TheVariants as end
use Rattle.telling.specs.Hearing.{TellerSeen}
use Rattle.telling.specs.Taken.{Entry, TellingSeen, TakesNext, IsRun, GoOn, any_refused, is_refused, end_with, IsEndedBy, EndsSo, TellsLines}

pub run-snoc : (p : Bool) (log : List Entry) (e : Entry) (a b c : TellingSeen) → IsRun p log a b → TakesNext p e b c → IsRun p (log ++ e ∷ []) a c
run-snoc p [] e a b c run t = (c, subst (λ s. TakesNext p e s c) run t, refl)
run-snoc p (x ∷ log) e a b c run t = (run.0, run.1, run-snoc p log e run.0 b c run.2 t)

pub go_on-snoc : (log : List Entry) (e : Entry) → GoOn log → end_with e.fate ≡ None → GoOn (log ++ e ∷ [])
go_on-snoc [] e each is = (is, tt)
go_on-snoc (x ∷ log) e each is = (each.0, go_on-snoc log e each.1 is)

or_false : (b : Bool) → (b || false) ≡ b
or_false true = refl
or_false false = refl

pub refused-snoc : (log : List Entry) (e : Entry) → any_refused (log ++ e ∷ []) ≡ (any_refused log || is_refused e.fate)
refused-snoc [] e = or_false (is_refused e.fate)
refused-snoc (x ∷ log) e = ap (λ b. is_refused x.fate || b) (refused-snoc log e) ∙ or_assoc (is_refused x.fate) (any_refused log) (is_refused e.fate) where
  or_assoc : (a b c : Bool) → (a || (b || c)) ≡ ((a || b) || c)
  or_assoc true b c = refl
  or_assoc false b c = refl

pub some_next : {X : Type 0} (A : Type 0) (B : X → Type 0) (o : Option X) (x : X) → o ≡ Some x → MatchOption o A B → B x
some_next A B o x is came = subst (λ o. MatchOption o A B) is came

-- ---- a run so far: none of its lines ends it, and this says whether one was refused

pub record IsSoFar (p : Bool) (log : List Entry) (refused : Bool) (old new : TellingSeen) : Type 0 where
  pub run : IsRun p log old new
  pub go_on : GoOn log
  pub refused_is : any_refused log ≡ refused

abbrev pub SoFar : Bool → Bool → TellingSeen → TellingSeen → Type 0
SoFar p refused old new = (log : List Entry) × IsSoFar p log refused old new

pub nothing_yet : (p : Bool) (old : TellingSeen) → SoFar p false old old
nothing_yet p old = ([], record { run = refl; go_on = tt; refused_is = refl })

pub one_more : (p refused : Bool) (e : Entry) (old between new : TellingSeen)
    → SoFar p refused old between → TakesNext p e between new → end_with e.fate ≡ None → SoFar p (refused || is_refused e.fate) old new
one_more p refused e old between new s next is = (
  s.0 ++ e ∷ [],
  record {
    run = run-snoc p s.0 e old between new s.1.run next;
    go_on = go_on-snoc s.0 e s.1.go_on is;
    refused_is = refused-snoc s.0 e ∙ ap (λ b. b || is_refused e.fate) s.1.refused_is;
  },
)

-- some line ends a run so
abbrev ends_so : LinesEnd → Bool
ends_so end.Done = false
ends_so end.Refused = false
ends_so end.Closed = true
ends_so end.Silent = true
ends_so end.Fault = true
ends_so end.Unread = false
ends_so end.NoMemory = true

is_so : (f : Fate) (h : LinesEnd) → end_with f ≡ Some h → ends_so h ≡ true
is_so fate.Blank h at = absurd cc
is_so fate.Untold h at = absurd cc
is_so (fate.Asked heard.Done) h at = absurd cc
is_so (fate.Asked heard.Refused) h at = absurd cc
is_so (fate.Asked heard.Closed) h at = ap ends_so (sym (some_is end.Closed h at))
is_so (fate.Asked heard.Full) h at = absurd cc
is_so (fate.Asked heard.Silent) h at = ap ends_so (sym (some_is end.Silent h at))
is_so (fate.Asked heard.Fault) h at = ap ends_so (sym (some_is end.Fault h at))
is_so fate.NoSocket h at = ap ends_so (sym (some_is end.Fault h at))
is_so fate.NoMemory h at = ap ends_so (sym (some_is end.NoMemory h at))

clash : false ≡ true → ⊥
clash e = absurd cc

-- the last line ends it
pub ended_by : (p refused : Bool) (e : Entry) (old between new : TellingSeen) (how : LinesEnd)
    → SoFar p refused old between → TakesNext p e between new → end_with e.fate ≡ Some how → TellsLines p old new how
ended_by p refused e old between new how s next is =
    record { log = s.0 ++ e ∷ []; rest = new.input; run = run-snoc p s.0 e old between new s.1.run next; ends = ends how is } where
      by : (h : LinesEnd) → end_with e.fate ≡ Some h → IsEndedBy h (s.0 ++ e ∷ [])
      by h at = (s.0, e, refl, s.1.go_on, at)

      ends : (h : LinesEnd) → end_with e.fate ≡ Some h → EndsSo h (s.0 ++ e ∷ []) new.input
      ends end.Done at = absurd (clash (is_so e.fate end.Done at))
      ends end.Refused at = absurd (clash (is_so e.fate end.Refused at))
      ends end.Closed at = by end.Closed at
      ends end.Silent at = by end.Silent at
      ends end.Fault at = by end.Fault at
      ends end.Unread at = absurd (clash (is_so e.fate end.Unread at))
      ends end.NoMemory at = inr (by end.NoMemory at)

-- it ends behind a line, or within one, whatever was read of that
pub ends_here : (p refused : Bool) (old between : TellingSeen) (new : TellingSeen) (how : LinesEnd)
    → SoFar p refused old between → new.teller ≡ between.teller → ((log : List Entry) → GoOn log → any_refused log ≡ refused → EndsSo how log between.input)
    → TellsLines p old new how
ends_here p refused old between new how s same ends =
    record {
      log = s.0;
      rest = between.input;
      run = subst (λ (t : TellerSeen). IsRun p s.0 old (record { input = between.input; teller = t })) (sym same) s.1.run;
      ends = ends s.0 s.1.go_on s.1.refused_is;
    }

pub done_here : (p : Bool) (old between new : TellingSeen) → SoFar p false old between → IsAtEnd between.input → new.teller ≡ between.teller → TellsLines p old new end.Done
done_here p old between new s at_end same = ends_here p false old between new end.Done s same (λ log go none. (at_end, go, none))

pub refused_here : (p : Bool) (old between new : TellingSeen) → SoFar p true old between → IsAtEnd between.input → new.teller ≡ between.teller → TellsLines p old new end.Refused
refused_here p old between new s at_end same = ends_here p true old between new end.Refused s same (λ log go some. (at_end, go, some))

pub unread_here : (p refused : Bool) (old between new : TellingSeen) → SoFar p refused old between → new.teller ≡ between.teller → TellsLines p old new end.Unread
unread_here p refused old between new s same = ends_here p refused old between new end.Unread s same (λ log go is. go)

pub no_memory_here : (p refused : Bool) (old between new : TellingSeen) → SoFar p refused old between → new.teller ≡ between.teller → TellsLines p old new end.NoMemory
no_memory_here p refused old between new s same = ends_here p refused old between new end.NoMemory s same (λ log go is. inl go)
