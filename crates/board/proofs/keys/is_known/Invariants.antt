use Rattle.std.proofs.Common.{◌≡◌, map, bytes_eq, drop}
use Rattle.std.specs.List.{list_any}
use Rattle.board.proofs.keys.is_known.Given as goal

-- the key is one of the known just where it is one of those that are left
abbrev pub invariant-keys : goal.invariant-keys
invariant-keys l =
    list_any (bytes_eq l.key) (map (λ key. key.now) (drop l.other-index l.known))
    ≡ list_any (bytes_eq l.key) (map (λ key. key.now) l.known)
