-- A read of a part, by its reader.
use Rattle.std.proofs.Common.{◌≡◌, ◌⊎◌, ℕ, true, List, [], ◌∷◌, ◌++◌, Some, None, refl, ap, inl, inr}
use Rattle.std.proofs.lemmas.Slice.Eq.{bytes_eq-Decides}
use Rattle.std.specs.Prelude.{◌||◌, codes, OnOk, Result, Ok, Err}
use Rattle.std.specs.Str.{bytes_eq}
use Rattle.link_source.specs.Endpoint.{IsHttp, IsUsable}
use Rattle.link_source.specs.Exchanges.{Exchange}
use Rattle.link_source.specs.Link.{LinkState}
use Rattle.span_map.specs.declared.jobs.JobPart.{JobPart}
use Rattle.reply_reader.specs.declared.loss.Loss.{Loss}
use Rattle.request_chain.specs.Calls.{ReadsOrLoses}
use Rattle.request_chain.specs.Plans.{Done}
use Rattle.request_chain.specs.declared.chain.Chain.{Chain}
use Rattle.request_chain.specs.declared.chain.ChainRead.{ChainRead}
use Rattle.request_chain.specs.declared.room.ChainRoom.{ChainRoom}
use Rattle.ftp_link.specs.Reads.{ReadsOrLosesTalk}
use Rattle.ftp_link.specs.declared.room.FtpRoom.{FtpRoom}
use Rattle.ftp_link.specs.declared.talk.FtpTalk.{FtpTalk}
use Rattle.ftp_places.specs.Places.{ftp_place, is_ftp_url}
use Rattle.ftp_places.specs.declared.place.FtpPlace.{FtpPlace}
use Rattle.part_fetches.proofs.Following.{by_dialogue, by_requests}
use Rattle.part_readers.specs.Readers.{ReadsOrLosesPart}
use Rattle.part_readers.specs.declared.reader.PartReader.TheVariants.{Http, Ftp}
use Rattle.part_readers.proofs.Losing.{loss_by_dialogue, loss_by_requests}

pub on_ok : {T P Q : Type 0} (result : Result T Loss) → (P → Q) → OnOk result P → OnOk result Q
on_ok (Ok value) go done = go done
on_ok (Err loss) go done = done

pub http_usable : (text : List ℕ) → IsHttp text → IsUsable text
http_usable text http =
    let url = http.0 in
    let is : bytes_eq url.scheme (codes "http") ≡ true = (bytes_eq-Decides url.scheme (codes "http")).1 http.2 in
    (url, http.1, ap (λ test. test || is_ftp_url url) is)

module _ (part : JobPart) (before used : List Exchange) (bytes added : List ℕ) (room allow : ℕ) (link : LinkState) (faults : ℕ) where
  pub read_by_requests : (result : Result ChainRead Loss) (new : Chain) (other : FtpRoom) → ftp_place part.url ≡ None
      → ReadsOrLoses (part ∷ []) before used bytes added room allow result new link faults
      → ReadsOrLosesPart part before used bytes added room allow result (Http new other) new.taken link faults
  read_by_requests (Ok read) new other none reads = record {
    later = reads.later;
    gains = reads.gains;
    waiting = reads.waiting;
    none_waits = reads.none_waits;
    taken = reads.taken;
    few = reads.few;
    full = reads.full;
    goes_on = elim reads.goes_on [
      | inl done ↦ inl done
      | inr more ↦ inr (none, more, reads.brought)
    ];
    done = λ all. by_requests part reads.later [] (bytes ++ added) Done none (reads.done all);
  }
  read_by_requests (Err loss) new other none loses = record {
    later = loses.later;
    gains = loses.gains;
    taken_is = loses.taken;
    few = loses.few;
    tells = loss_by_requests part loses.later (bytes ++ added) faults loss none loses.tells;
  }

  pub read_by_dialogue : (place : FtpPlace) (result : Result ChainRead Loss) (new : FtpTalk) (other : ChainRoom) → ftp_place part.url ≡ Some place
      → ReadsOrLosesTalk place part before used bytes added room allow result new link faults
      → ReadsOrLosesPart part before used bytes added room allow result (Ftp new other) new.taken link faults
  read_by_dialogue place (Ok read) new other there reads = record {
    later = reads.later;
    gains = reads.gains;
    waiting = [];
    none_waits = λ short. refl;
    taken = reads.taken;
    few = reads.few;
    full = reads.full;
    goes_on = elim reads.goes_on [
      | inl done ↦ inl done
      | inr more ↦ inr (place, there, more, refl, (reads.ending, reads.brought))
    ];
    done = λ all. by_dialogue place part reads.later [] (bytes ++ added) Done there (reads.done all);
  }
  read_by_dialogue place (Err loss) new other there loses = record {
    later = loses.later;
    gains = loses.gains;
    taken_is = loses.taken;
    few = loses.few;
    tells = loss_by_dialogue part loses.later (bytes ++ added) faults place loss there loses.tells;
  }
