-- What a probe comes to.
use Rattle.std.proofs.Common.{◌≡◌, ◌≤◌, ℕ, Bool, IsTrue, List, Option, Some, None, Result, Ok, Err, refl, MatchResult, IfErr}
use Rattle.dl_kinds.specs.declared.marks.Mark.{Mark}
use Rattle.fetch_session.specs.declared.room.FetchRoom.{FetchRoom}
use Rattle.link_source.specs.Exchanges.{Exchange}
use Rattle.reply_reader.specs.Losses.{mark_of}
use Rattle.reply_reader.specs.declared.loss.Loss.{Loss}
use Rattle.request_chain.specs.Answered.{KeepsAnswers}
use Rattle.request_chain.specs.Chains.{Gains}
use Rattle.request_chain.specs.Links.{CountsLinkLoss}
use Rattle.request_chain.specs.Probes.{Told as TellsTotal}
use Rattle.part_fetches.specs.Probes.{Probed, TellsProbeLoss}
use Rattle.std.proofs.Common.{inl, []}
use Rattle.conn_worker.specs.Facts.{IsProbingAt, IsProbeEnd}
use Rattle.conn_worker.specs.Hands.{LinkAt, Probing}
use Rattle.conn_worker.specs.Holding.{IsProbedInHand, IsRoomFor, probe_end, probe_lost_by}
use Rattle.conn_worker.proofs.Steps.{told_or}

-- what is told of its exchanges
pub record Asked (url : List ℕ) (link link' : LinkAt) (came : Result ℕ Loss) (used : List Exchange) : Type 0 where
  pub gains : Gains link.state.exchanges link'.state.exchanges used
  pub says : MatchResult came (λ total. Probed url used (TellsTotal total)) (TellsProbeLoss url used link'.faults)

lost_end : (tells : Bool) (p : Probing) (link' : LinkAt) (loss : Loss) (mark : Option Mark) → mark_of loss ≡ mark
    → CountsLinkLoss p.since.faults link'.faults loss
    → (IsTrue tells → TellsProbeLoss p.url p.used link'.faults loss)
    → IsProbeEnd tells p link' (probe_lost_by loss mark)
lost_end tells p link' loss None is counts says = tt
lost_end tells p link' loss (Some mark) is counts says = (is, counts, says)

end_is : (tells : Bool) (p : Probing) (link' : LinkAt) (came : Result ℕ Loss)
    → IfErr came (CountsLinkLoss p.since.faults link'.faults)
    → (IsTrue tells → MatchResult came (λ total. Probed p.url p.used (TellsTotal total)) (TellsProbeLoss p.url p.used link'.faults))
    → IsProbeEnd tells p link' (probe_end came)
end_is tells p link' (Ok total) counts says = says
end_is tells p link' (Err loss) counts says = lost_end tells p link' loss (mark_of loss) refl counts says

pub asked : (tells : Bool) (claim : ℕ) (url : List ℕ) (link link' : LinkAt) (room : FetchRoom) (came : Result ℕ Loss)
    → (IsTrue tells → (used : List Exchange) × Asked url link link' came used)
    → IfErr came (CountsLinkLoss link.faults link'.faults)
    → (IsTrue tells → (before : List Exchange) → KeepsAnswers before link.state link'.state)
    → link.faults ≤ link'.faults → IsRoomFor tells room link'
    → IsProbedInHand tells claim url link link' (record { claim = claim; end = probe_end came; room = room })
asked tells claim url link link' room came told counts answered later may =
    let used = told_or tells (Asked url link link' came) [] told in
    let p : Probing = record { claim = claim; url = url; since = link; used = used.0; end = probe_end came } in
    let at : IsProbingAt tells p link' = record {
      used = record {
        later = later;
        gained = λ t. (used.1 t).gains;
        answered = λ t. answered t link.state.exchanges link.state.content (inl (refl, refl));
      };
      end = end_is tells p link' came counts (λ t. (used.1 t).says);
    } in (
      p,
      record { claim_is = refl; url_is = refl; since_is = refl; at = at },
      record { claim = refl; end = refl; room = may; at = at },
    )
