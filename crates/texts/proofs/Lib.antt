mod Held
mod Same
