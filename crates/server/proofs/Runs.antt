-- How runs of a script end.
use Rattle.std.proofs.Common.{◌≡◌, List, Option, ℕ, true, Result, Ok, Err, ⊎_elim, inl, inr, ap}
use Rattle.std.specs.Prelude.{OnOk, OnErr, IfErr}
use Rattle.scripts.specs.declared.error.ScriptError.{ScriptError}
use Rattle.scripts.specs.declared.error.ScriptError.TheVariants.{Device}
use Rattle.transport.specs.Devices.{SourceSeen, SinkSeen, one_more}
use Rattle.notifier_model.specs.Start.{Start}
use Rattle.server.specs.Runs.{WritesPage, WritesFront, Runs}

pub on_ok : {T E A B : Type 0} (r : Result T E) → (A → B) → OnOk r A → OnOk r B
on_ok (Ok x) f a = f a
on_ok (Err e) f a = tt

pub on_errs : {T E A B C : Type 0} (r : Result T E) → (A → B → C) → OnErr r A → OnErr r B → OnErr r C
on_errs (Ok x) f a b = tt
on_errs (Err e) f a b = f a b

module _ {R W : Type 0} {remaining : R → Option (List ℕ)} {contents : W → Option (List ℕ)} {starts : List Start} {source source' : SourceSeen R} {sink sink' : SinkSeen W} where
  -- a run that starts threads where another one does
  pub threaded : {threads threads' : Type 0} {result : Result (Unit {0}) ScriptError}
      → (threads → threads') → Runs remaining contents threads starts result source source' sink sink' → Runs remaining contents threads' starts result source source' sink sink'
  threaded may run = record {
    page = run.page;
    flushed = run.flushed;
    bad_script = run.bad_script;
    unwritten = run.unwritten;
    device = λ failed. ⊎_elim (λ fault. inl fault) (λ none. inr (may none.0, none.1)) (run.device failed);
    no_failure = run.no_failure;
  }

  -- a run that came to writing: only a device fault is left
  pub written : {threads : Type 0} (r : Result (Unit {0}) ScriptError) → source'.failures ≡ source.failures → IfErr r (λ e. e ≡ Device)
      → OnOk r (WritesPage remaining contents starts source source' sink sink') → OnOk r (sink'.is_flushed ≡ true) → OnOk r (sink'.failures ≡ sink.failures)
      → OnErr r ((sink'.failures ≡ one_more sink.failures) × WritesFront remaining contents starts source source' sink sink')
      → Runs remaining contents threads starts r source source' sink sink'
  written (Ok x) same fault page flushed kept front = record {
    page = page;
    flushed = flushed;
    bad_script = λ is. absurd cc;
    unwritten = λ other. tt;
    device = λ is. absurd cc;
    no_failure = λ other. (same, kept);
  }
  written (Err e) same fault page flushed kept front = record {
    page = tt;
    flushed = tt;
    bad_script = λ is. (let device = fault in absurd cc);
    unwritten = λ other. absurd (other (ap Err fault));
    device = λ is. inl (inr (same, front.0, front.1));
    no_failure = λ other. absurd (other (ap Err fault));
  }
