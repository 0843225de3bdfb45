-- A signal that joins the outbox, and goes to a buffer, goes to a level of the summary.
use Rattle.std.proofs.Common.{ℕ, List}
use Rattle.job_types.specs.declared.outbox.SendTo.{SendTo}
use Rattle.exchange_model.specs.declared.exchange.Exchange.{Exchange}
use Rattle.exchange_model.specs.declared.stmt.StmtKind.TheOpen as stmt
use Rattle.source_meaning.specs.Config.{Item, Config}
use Rattle.source_meaning.specs.Deeds.{Deed, deed_point, IsPosting, to_queue, to_outside}
use Rattle.source_meaning.specs.Rests.{DeedStands}
use Rattle.flow_points.specs.Facts.{Facts, Reached}
use Rattle.entry_summary.specs.declared.summary.Summary.{Summary}
use Rattle.entry_summary.specs.Summaries.{sends, IsSummary}
use Rattle.permit_laws.specs.Permitted.{IsToLevel}
use Rattle.permit_laws.proofs.Telling.{told_level}

pub posting_level : (x : Exchange) (P : Facts) (e : ℕ) (m : Summary) → IsSummary x P e m
    → (c : Config) (deed : Deed) (rest : List Item) (to : SendTo) (vs : List ℕ) → DeedStands x c.block deed rest
    → Reached P e (deed_point deed) → IsPosting x c deed to vs → IsToLevel m to
posting_level x P e m summary c deed rest to vs at reached (to_queue p signal receiver values fresh name level count b ws kind is) =
    told_level x P e m summary c.block p (stmt.Send signal receiver values fresh) rest at reached level
    (sends signal receiver values fresh name level count kind)
posting_level x P e m summary c deed rest to vs at reached (to_outside p signal receiver values fresh name count b ws kind is) = tt
