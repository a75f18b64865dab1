pub mod UnpackedLaws
pub mod RoomLaws
