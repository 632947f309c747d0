use Rattle.std.proofs.Common.{◌≡◌, ◌∷◌, ◌++◌, ◌<◌, ◌^◌, List, ℕ, Option, Some, None, ap, sym, ◌∙◌, arith}
use Rattle.std.specs.Prelude.{decimal}
use Rattle.std.proofs.lemmas.Str.Ascii.{encode_ascii}
use Rattle.notifier_model.proofs.HomeNames.{Leads, behind_w, no_w, no_worker, none_worker, none_serial, its_worker, its_serial}
use Rattle.notifier_model.proofs.homes.tag.TagNumbers.read.Goals as goal

pub returns-in_err-behind-clause-worker : goal.returns-in_err-behind-clause-worker
returns-in_err-behind-clause-worker c = λ worker small.
    let tag = c.args.tag.now in
    let none = no_w tag (λ rest e. c.in_err-behind.ensures.cases rest (e ∙ sym (ap (λ (l : List ℕ). l ++ rest) (encode_ascii 119 (omega arith))))) in
    rw c.from_residual.ensures (none_worker tag none worker small)

pub returns-in_err-behind-clause-serial : goal.returns-in_err-behind-clause-serial
returns-in_err-behind-clause-serial c = λ worker serial small fits.
    let tag = c.args.tag.now in
    let none = no_w tag (λ rest e. c.in_err-behind.ensures.cases rest (e ∙ sym (ap (λ (l : List ℕ). l ++ rest) (encode_ascii 119 (omega arith))))) in
    rw c.from_residual.ensures (none_serial tag none worker serial small fits)

pub returns-in_err-worker-clause-worker : goal.returns-in_err-worker-clause-worker
returns-in_err-worker-clause-worker c = λ worker small.
    let tag = c.args.tag.now in let behind = c.in_ok-behind.behind.now in
    let none = no_worker tag behind (behind_w tag behind c.in_ok-behind.ensures.cases) c.in_err-worker.ensures.cut in
    rw c.from_residual-in_err-worker.ensures (none_worker tag none worker small)

pub returns-in_err-worker-clause-serial : goal.returns-in_err-worker-clause-serial
returns-in_err-worker-clause-serial c = λ worker serial small fits.
    let tag = c.args.tag.now in let behind = c.in_ok-behind.behind.now in
    let none = no_worker tag behind (behind_w tag behind c.in_ok-behind.ensures.cases) c.in_err-worker.ensures.cut in
    rw c.from_residual-in_err-worker.ensures (none_serial tag none worker serial small fits)

pub returns-in-Some-clause-worker : goal.returns-in-Some-clause-worker
returns-in-Some-clause-worker c =
    let tag = c.args.tag.now in let behind = c.in_ok-behind.behind.now in let w = c.in_ok-worker.worker in let rest = c.in_ok-worker.rest.now in
    let whole : tag ≡ 119 ∷ (decimal w ++ 45 ∷ rest) = behind_w tag behind c.in_ok-behind.ensures.cases ∙ ap (λ (l : List ℕ). 119 ∷ l) c.in_ok-worker.ensures.cut in
    its_worker tag rest w c.in_ok-worker.ensures.fits whole

pub returns-in-None-clause-worker : goal.returns-in-None-clause-worker
returns-in-None-clause-worker c =
    let tag = c.args.tag.now in let behind = c.in_ok-behind.behind.now in let w = c.in_ok-worker.worker in let rest = c.in_ok-worker.rest.now in
    let whole : tag ≡ 119 ∷ (decimal w ++ 45 ∷ rest) = behind_w tag behind c.in_ok-behind.ensures.cases ∙ ap (λ (l : List ℕ). 119 ∷ l) c.in_ok-worker.ensures.cut in
    its_worker tag rest w c.in_ok-worker.ensures.fits whole

pub returns-in-Some-clause-serial : goal.returns-in-Some-clause-serial
returns-in-Some-clause-serial c =
    let tag = c.args.tag.now in let behind = c.in_ok-behind.behind.now in let w = c.in_ok-worker.worker in let rest = c.in_ok-worker.rest.now in
    let whole : tag ≡ 119 ∷ (decimal w ++ 45 ∷ rest) = behind_w tag behind c.in_ok-behind.ensures.cases ∙ ap (λ (l : List ℕ). 119 ∷ l) c.in_ok-worker.ensures.cut in
    let leads : Leads rest (Some c.in-Some.serial) = (c.in-Some.ensures.fits, _, c.in-Some.ensures.cut) in
    its_serial tag rest w c.in_ok-worker.ensures.fits whole (Some c.in-Some.serial) leads

pub returns-in-None-clause-serial : goal.returns-in-None-clause-serial
returns-in-None-clause-serial c =
    let tag = c.args.tag.now in let behind = c.in_ok-behind.behind.now in let w = c.in_ok-worker.worker in let rest = c.in_ok-worker.rest.now in
    let whole : tag ≡ 119 ∷ (decimal w ++ 45 ∷ rest) = behind_w tag behind c.in_ok-behind.ensures.cases ∙ ap (λ (l : List ℕ). 119 ∷ l) c.in_ok-worker.ensures.cut in
    its_serial tag rest w c.in_ok-worker.ensures.fits whole None c.in-None.ensures.cut
