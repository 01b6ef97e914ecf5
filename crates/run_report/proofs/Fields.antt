-- What is told of a download, field by field.
use Rattle.std.proofs.Common.{◌≡◌, ℕ, Option, List, refl}
use Rattle.dl_kinds.specs.declared.gid.Gid.{Gid}
use Rattle.dl_kinds.specs.declared.status.Status.{Status}
use Rattle.run_report.specs.declared.views.FileView.{FileView}
use Rattle.run_report.specs.declared.views.StatusView.{StatusView}

pub view_is : (w : StatusView) (bitfield : Option (List ℕ)) (completed connections : ℕ) (dir : List ℕ) (speed : ℕ)
    (code : Option ℕ) (words : Option (List ℕ)) (files : List FileView) (gid : Gid) (hash : Option (List ℕ))
    (pieces piece_len : ℕ) (reached : Status) (total uploaded upload_speed : ℕ)
    → bitfield ≡ w.bitfield → completed ≡ w.completed_length → connections ≡ w.connections → dir ≡ w.dir
    → speed ≡ w.download_speed → code ≡ w.error_code → words ≡ w.error_message → files ≡ w.files → gid ≡ w.gid
    → hash ≡ w.info_hash → pieces ≡ w.num_pieces → piece_len ≡ w.piece_length → reached ≡ w.status
    → total ≡ w.total_length → uploaded ≡ w.upload_length → upload_speed ≡ w.upload_speed
    → record {
      bitfield = bitfield;
      completed_length = completed;
      connections = connections;
      dir = dir;
      download_speed = speed;
      error_code = code;
      error_message = words;
      files = files;
      gid = gid;
      info_hash = hash;
      num_pieces = pieces;
      piece_length = piece_len;
      status = reached;
      total_length = total;
      upload_length = uploaded;
      upload_speed = upload_speed;
    } ≡ w
view_is w bitfield completed connections dir speed code words files gid hash pieces piece_len reached total uploaded
    upload_speed e1 e2 e3 e4 e5 e6 e7 e8 e9 e10 e11 e12 e13 e14 e15 e16 =
    rw (e1, e2, e3, e4, e5, e6, e7, e8, e9, e10, e11, e12, e13, e14, e15, e16) refl
