-- What is said of control lines from elsewhere than lines are heard from, and of those that the service sent itself.
use Rattle.std.proofs.Common.{◌≡◌, ⊎_elim, ℕ, Bool, true, false, not, ◌&&◌, List, [], ◌∷◌, Option, Some, None, refl, subst}
use Rattle.std.specs.List.{AllByRecursion}
use Rattle.service.specs.declared.lines.Handled.{Handled}
use Rattle.service.specs.declared.lines.Handled.TheVariants as did
use Rattle.service.specs.Taken.{DeskSeen, Line, is_near, is_own, is_named, IsForeign, IsMeant, IsLine, AreLines, MayReply, desk_after, IsSilent, EachForeignIsSilent, EachOwnIsSilent}

no_reply : (desk : DeskSeen) (d : Handled) (reply : Option (List ℕ)) → d ≡ did.Foreign → MayReply desk d reply → reply ≡ None
no_reply desk d None is may = refl
no_reply desk d (Some octets) is may = let P : Handled → Type 0 = λ x. MayReply desk x (Some octets) in absurd (subst P is may)

both : {A : Type 0} (b : Bool) → b ≡ false → b ≡ true → A
both true f t = absurd cc
both false f t = absurd cc

silent : (desk : DeskSeen) (l : Line) → IsLine desk l → is_near desk l.came.peer ≡ false → IsSilent l
silent desk l is far =
    ⊎_elim
    (λ (h : IsForeign desk l.came.peer l.event l.done). (h.1, no_reply (desk_after l desk) l.done l.reply h.2 is.answered))
    (λ (h : (is_near desk l.came.peer ≡ true) × IsMeant desk l.came.octets l.event l.done). both (is_near desk l.came.peer) far h.0)
    is.meant

-- ---- who is not heard

strange : (own named : Bool) → named ≡ false → (not own && named) ≡ false
strange true named e = refl
strange false named e = e

its_own : (own named : Bool) → own ≡ true → (not own && named) ≡ false
its_own true named e = refl
its_own false named e = absurd cc

all_strange : (desk : DeskSeen) (log : List Line) → AreLines desk log
    → AllByRecursion (λ (l : Line). is_named desk.hearing.networks l.came.peer.ip ≡ false → IsSilent l) log
all_strange desk [] are = tt
all_strange desk (l ∷ log) are =
    (λ far. silent desk l are.0 (strange (is_own desk.hearing.own l.came.peer) (is_named desk.hearing.networks l.came.peer.ip) far), all_strange (desk_after l desk) log are.1)

all_own : (desk : DeskSeen) (log : List Line) → AreLines desk log → AllByRecursion (λ (l : Line). is_own desk.hearing.own l.came.peer ≡ true → IsSilent l) log
all_own desk [] are = tt
all_own desk (l ∷ log) are =
    (λ its. silent desk l are.0 (its_own (is_own desk.hearing.own l.came.peer) (is_named desk.hearing.networks l.came.peer.ip) its), all_own (desk_after l desk) log are.1)

pub each_silent : EachForeignIsSilent
each_silent desk log old new end are = all_strange desk log are.each

pub each_own_silent : EachOwnIsSilent
each_own_silent desk log old new end are = all_own desk log are.each
