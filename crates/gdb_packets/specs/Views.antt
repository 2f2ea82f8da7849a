-- Parts of a text, and packets, as a contract sees them.
use Rattle.gdb_packets.specs.declared.packets.Packet.{Packet as CodePacket}
use Rattle.gdb_packets.specs.declared.parts.Parts.{Parts as CodeParts}
use Rattle.gdb_packets.specs.Numbers.{Parts}
use Rattle.gdb_packets.specs.Packets.{Packet}

abbrev pub parts_view : CodeParts → Parts
parts_view parts = record { front = parts.front.now; rest = parts.rest.now }

abbrev pub packet_view : CodePacket → Packet
packet_view packet = record { request = packet.request; tail = packet.tail.now }
