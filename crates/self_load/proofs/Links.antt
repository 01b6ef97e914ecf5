-- One link more.
use Rattle.std.proofs.Common.{◌≡◌, ◌∙◌, ℕ, zero, suc, ◌+◌, Some, slice_get, ap, sym, List, [], ◌∷◌, ◌++◌, length, arith, subst}
use Rattle.dl_clock.specs.declared.memory.MemClock.{MemClock}
use Rattle.link_source.specs.Link.{LinkState}
use Rattle.load_setup.specs.Links.{IsLoadLink, load_content}
use Rattle.load_setup.specs.Sound.{sound_links_state}
use Rattle.load_setup.specs.declared.sound_links.SoundLinks.{SoundLinks}
use Rattle.self_load.specs.Inner.{AreLinksFrom}

links_more : (n first number : ℕ) (links : List (SoundLinks × MemClock)) (link : SoundLinks × MemClock)
    → AreLinksFrom n first links
    → first + length links ≡ number → IsLoadLink n number link.0 → AreLinksFrom n first (links ++ link ∷ [])
links_more n first number [] link are at is =
    let same : number ≡ first = omega (arith, at) in
    (subst (λ k. IsLoadLink n k link.0) same is, tt)
links_more n first number (old ∷ links) link are at is = (
  are.0,
  links_more n (first + 1) number links link are.1
      (omega (arith, at)) is,
)

-- .. so are the links with it
pub links_pushed : (n number : ℕ) (links more : List (SoundLinks × MemClock)) (link : SoundLinks × MemClock)
    → more ≡ links ++ link ∷ [] → AreLinksFrom n 0 links → length links ≡ number → IsLoadLink n number link.0
    → AreLinksFrom n 0 more
links_pushed n number links more link same are at is =
    subst (λ (ls : List (SoundLinks × MemClock)). AreLinksFrom n 0 ls) (sym same)
    (links_more n 0 number links link are (omega (arith, at)) is)

-- the content of each link
pub links_content : (n first : ℕ) (links : List (SoundLinks × MemClock)) → AreLinksFrom n first links
    → (place : ℕ) (link : SoundLinks × MemClock) → slice_get links place ≡ Some link
    → (sound_links_state link.0).content ≡ load_content n (first + place)
links_content n first [] are place link at = absurd cc
links_content n first (old ∷ links) are zero link at =
    let same : old ≡ link = some_same old link at in
    subst (λ (l : SoundLinks × MemClock). (sound_links_state l.0).content ≡ load_content n (first + 0)) same
    (ap (λ (s : LinkState). s.content) are.0 ∙ ap (load_content n) (let here : first ≡ first + 0 =
    omega arith in here))
  where
    some_same : (a b : SoundLinks × MemClock) → Some a ≡ Some b → a ≡ b
    some_same a b is = cc
links_content n first (old ∷ links) are (suc place) link at =
    links_content n (first + 1) links are.1 place link at
    ∙ ap (load_content n) (let on : first + 1 + place ≡ first + suc place = omega arith in on)
