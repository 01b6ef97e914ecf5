-- The frames of texts, one behind another.
use Rattle.std.proofs.Common.{◌≡◌, ⊎_elim, ◌⊎◌, refl, sym, ap, ◌∙◌, ℕ, List, [], ◌∷◌, ◌++◌, append-nil}
use Rattle.std.proofs.lemmas.Grind.{flat_map-append}
use Rattle.std.specs.List.{flat_map}
use Rattle.console_socket.specs.Frames.{EndsControl, HaveFrames, TextSent, ReplySent, sent_bytes_of, text_frame, sent_texts_of}

pub have_both : (texts others : List (List ℕ)) (bytes more : List ℕ) → HaveFrames texts bytes → HaveFrames others more
    → HaveFrames (texts ++ others) (bytes ++ more)
have_both texts others bytes more one other = record {
  pieces = one.pieces ++ other.pieces;
  texts_are = flat_map-append sent_texts_of one.pieces other.pieces ∙ ap (λ xs. xs ++ flat_map sent_texts_of other.pieces) one.texts_are
      ∙ ap (λ xs. texts ++ xs) other.texts_are;
  bytes_are = flat_map-append sent_bytes_of one.pieces other.pieces ∙ ap (λ xs. xs ++ flat_map sent_bytes_of other.pieces) one.bytes_are
      ∙ ap (λ xs. bytes ++ xs) other.bytes_are;
}

pub have_none : HaveFrames [] []
have_none = record { pieces = []; texts_are = refl; bytes_are = refl }

pub have_all : (texts : List (List ℕ)) → HaveFrames texts (flat_map text_frame texts)
have_all [] = have_none
have_all (text ∷ texts) =
    let others = have_all texts in
    record {
      pieces = TextSent text ∷ others.pieces;
      texts_are = ap (λ xs. text ∷ xs) others.texts_are;
      bytes_are = ap (λ xs. text_frame text ++ xs) others.bytes_are;
    }

-- a reply, or nothing
pub have_reply : (bytes : List ℕ) → (bytes ≡ []) ⊎ EndsControl bytes → HaveFrames [] bytes
have_reply bytes is =
    ⊎_elim
    (λ none. record { pieces = []; texts_are = refl; bytes_are = sym none })
    (λ ends. record { pieces = ReplySent bytes ends ∷ []; texts_are = refl; bytes_are = append-nil bytes })
    is

pub frames_more : (texts : List (List ℕ)) (text : List ℕ) → flat_map text_frame (texts ++ text ∷ []) ≡ flat_map text_frame texts ++ flat_map text_frame (text ∷ [])
frames_more texts text = flat_map-append text_frame texts (text ∷ [])
