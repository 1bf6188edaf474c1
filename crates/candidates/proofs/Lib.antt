mod Origins
mod Waiting
mod Logged
