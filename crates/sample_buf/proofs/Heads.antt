-- Heads of chunks, and whole chunks: each is one thing.
use Rattle.std.proofs.Common.{◌≡◌, ℕ, ◌+◌, ◌^◌, ◌<◌, ◌≤◌, ◌%◌, List, ◌++◌, length, take, drop, refl, sym, ap, subst, ◌∙◌, arith}
use Rattle.std.proofs.lemmas.List.{take_at, drop_at, take-append-drop, length-append, length-take}
use Rattle.byteorder.specs.Endian.{little_bytes, little_number}
use Rattle.byteorder.specs.Numbers.{little_number-reads_back}
use Rattle.sample_buf.specs.Chunks.{Chunk, HasHead, HasChunk}
use Rattle.sample_buf.proofs.Fields.{IsBytes, long_back, bytes_behind, bytes_in_front}

-- a head from its parts
pub head_of : (bytes name sizes behind : List ℕ) → length name ≡ 4 → length sizes ≡ 4 → IsBytes sizes → little_number 4 sizes < 2 ^ 32 → bytes ≡ name ++ (sizes ++ behind)
    → HasHead bytes name (little_number 4 sizes) behind
head_of bytes name sizes behind four size fits below e = record {
  four = four;
  fits = below;
  stands = e ∙ ap (λ (t : List ℕ). name ++ (t ++ behind)) (sym (long_back sizes size fits));
}

-- the parts of a head, by their places
pub record HeadParts (bytes name : List ℕ) (size : ℕ) (behind : List ℕ) : Type 0 where
  pub long : length bytes ≡ 8 + length behind
  pub name_is : name ≡ take 4 bytes
  pub size_is : size ≡ little_number 4 (drop 4 bytes)
  pub behind_is : behind ≡ drop 4 (drop 4 bytes)

pub head_parts : (bytes name : List ℕ) (size : ℕ) (behind : List ℕ) → HasHead bytes name size behind → HeadParts bytes name size behind
head_parts bytes name size behind h =
    let after : drop 4 bytes ≡ little_bytes 4 size ++ behind = ap (drop 4) h.stands ∙ drop_at name (little_bytes 4 size ++ behind) 4 h.four in
    record {
      long = ap length h.stands ∙ omega (arith, length-append name (little_bytes 4 size ++ behind), h.four);
      name_is = sym (ap (take 4) h.stands ∙ take_at name (little_bytes 4 size ++ behind) 4 h.four);
      size_is = sym (ap (little_number 4) after ∙ little_number-reads_back 4 size behind h.fits);
      behind_is = sym (ap (drop 4) after);
    }

-- bytes have one head
pub record SameHead (name other : List ℕ) (size long : ℕ) (behind after : List ℕ) : Type 0 where
  pub one_name : name ≡ other
  pub one_size : size ≡ long
  pub one_rest : behind ≡ after

pub same_head : (bytes name other : List ℕ) (size long : ℕ) (behind after : List ℕ) → HasHead bytes name size behind → HasHead bytes other long after → SameHead name other size long behind after
same_head bytes name other size long behind after h g =
    let p = head_parts bytes name size behind h in
    let q = head_parts bytes other long after g in
    record { one_name = p.name_is ∙ sym q.name_is; one_size = p.size_is ∙ sym q.size_is; one_rest = p.behind_is ∙ sym q.behind_is }

abbrev pub chunk : List ℕ → List ℕ → Chunk
chunk name body = record { name = name; body = body }

chunk_is : (c d : Chunk) → c.name ≡ d.name → c.body ≡ d.body → c ≡ d
chunk_is c d p q = ap (λ (n : List ℕ). chunk n c.body) p ∙ ap (chunk d.name) q

-- bytes begin with one chunk
pub same_chunk : (bytes : List ℕ) (c d : Chunk) (others rest : List ℕ) → HasChunk bytes c others → HasChunk bytes d rest → (c ≡ d) × (others ≡ rest)
same_chunk bytes c d others rest h g =
    let s = same_head bytes c.name d.name (length c.body) (length d.body) (c.body ++ h.behind) (d.body ++ g.behind) h.head g.head in
    let body : c.body ≡ d.body =
    sym (take_at c.body h.behind (length c.body) refl) ∙ ap (λ (n : ℕ). take n (c.body ++ h.behind)) s.one_size ∙ ap (take (length d.body)) s.one_rest ∙ take_at d.body g.behind (length d.body) refl in
    let behind : h.behind ≡ g.behind =
    sym (drop_at c.body h.behind (length c.body) refl) ∙ ap (λ (n : ℕ). drop n (c.body ++ h.behind)) s.one_size ∙ ap (drop (length d.body)) s.one_rest ∙ drop_at d.body g.behind (length d.body) refl in
    (chunk_is c d s.one_name body, h.padded ∙ ap (λ (n : ℕ). drop (n % 2) h.behind) s.one_size ∙ ap (drop (length d.body % 2)) behind ∙ sym g.padded)

-- the head that was read
pub head_found : (bytes name rest sizes behind : List ℕ) (size : ℕ) → IsBytes bytes → name ≡ take 4 bytes → rest ≡ drop 4 bytes → length name ≡ 4 → sizes ≡ take 4 rest → behind ≡ drop 4 rest → length sizes ≡ 4
    → size ≡ little_number 4 sizes → size < 2 ^ 32 → HasHead bytes name size behind
head_found bytes name rest sizes behind size fits n r four s b long z below =
    let bytes_of : IsBytes sizes = subst IsBytes (sym (s ∙ ap (take 4) r)) (bytes_in_front 4 (drop 4 bytes) (bytes_behind 4 bytes fits)) in
    let second : rest ≡ sizes ++ behind = sym (ap (λ (t : List ℕ). t ++ behind) s ∙ ap (λ (t : List ℕ). take 4 rest ++ t) b ∙ take-append-drop 4 rest) in
    let first : bytes ≡ name ++ rest = sym (ap (λ (t : List ℕ). t ++ rest) n ∙ ap (λ (t : List ℕ). take 4 bytes ++ t) r ∙ take-append-drop 4 bytes) in
    let head = head_of bytes name sizes behind four long bytes_of (omega (arith, z, below)) (first ∙ ap (λ (t : List ℕ). name ++ t) second) in
    subst (λ (k : ℕ). HasHead bytes name k behind) (sym z) head

-- a whole chunk that was read: its head, its body and the padding behind it
pub chunk_found : (bytes name behind body after others : List ℕ) (size : ℕ) → HasHead bytes name size behind → size ≤ length behind → body ≡ take size behind → after ≡ drop size behind → others ≡ drop (size % 2) after
    → HasChunk bytes (record { name = name; body = body }) others
chunk_found bytes name behind body after others size h enough b a o =
    let len : length body ≡ size = ap length b ∙ omega (arith, length-take size behind, enough) in
    let parts : behind ≡ body ++ after = sym (ap (λ (t : List ℕ). t ++ after) b ∙ ap (λ (t : List ℕ). take size behind ++ t) a ∙ take-append-drop size behind) in
    record {
      behind = after;
      head = subst (λ (k : ℕ). HasHead bytes name k (body ++ after)) (sym len) (subst (λ (t : List ℕ). HasHead bytes name size t) parts h);
      padded = o ∙ ap (λ (k : ℕ). drop (k % 2) after) (sym len);
    }
