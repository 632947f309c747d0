-- A thread may be given a shared desk.
use mathlib.Core.List.{List, [], ◌∷◌}
use mir.Syntax.{Sym}
use denote.RattleType.{RattleType}
use denote.Struct.Declared.{shape}
use denote.Struct.Struct.{Struct}
use denote.Struct.Tuple.{TupleAt, type_at}
use denote.Param.Send.{IsSend, AllSend, recorded_send, struct_send}
use Rattle.std.proofs.Crossing as std
use Rattle.std.specs.contracts.alloc.Global as Global
use Rattle.std.specs.contracts.impls.GlobalAllocator.TheImpl.{ghosts}
use Rattle.std.specs.contracts.sync.Arc as Arc
use Rattle.package.specs.declared.interface.Package.{Ghosts}
use Rattle.crew.specs.contracts.shared.SharedDesk as Shared
use Rattle.crew.proofs.Sent.{shared_send, shared_sync}
use Rattle.examples_crew.specs.contracts.desks.News as News
use Rattle.examples_crew.proofs.desks.News.TheSendSync as news

-- the runtime, the allocator, the desk and its news
abbrev caught : (R P : RattleType) → Ghosts P.Denot → List RattleType
caught R P g = R ∷ Global.the_row ∷ Arc.the_row (Shared.the_row P g) Global.the_row ghosts ∷ News.the_row ∷ []

pub call_send : (R P : RattleType) (g : Ghosts P.Denot) (ν : Sym) → IsSend R → IsSend P → IsSend (TupleAt ν (caught R P g))
call_send R P g ν r p =
    let all : AllSend (caught R P g) = (r, (std.send, (std.Arc-send _ (shared_send P g p) (shared_sync P g p), (news.the_send, tt)))) in
    let T = type_at ν (caught R P g) in recorded_send (Struct (shape T)) T.D T.to T.to_one (struct_send (shape T) all)
