-- What is printed, by the number, and the room that it takes.
pub mod Numbers
pub mod Rooms
